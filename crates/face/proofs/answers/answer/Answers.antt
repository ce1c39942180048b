-- `answer`: the value's bytes, taken out of it again, are those that `answer_by` answers with.
use Rattle.std.proofs.Common.{◌+◌, ◌*◌, ℕ, List, arith, ap₂, ◌∙◌}
use Rattle.request.specs.Answers.{answer_by, packed}
use Rattle.request.proofs.Laws.Packed.{unpack}
use Rattle.face.specs.Answers.{face_answer, face_value}
use Rattle.face.proofs.Laws.Answers.{value_fits}
use Rattle.face.proofs.answers.answer.Goals as goal

pub returns : goal.returns
unfolding face_answer
returns c =
    let a = c.args in
    let value = face_value a.l a.held a.code in
    c.answer_by.ensures
    ∙ ap₂ (λ (n : ℕ) (s : List ℕ). packed (answer_by a.code (1 + 8 * n) 0x03 s)) c.endpoints_of.ensures.0
    (c.as_slice.ensures ∙ unpack value (value_fits a.l a.held a.code (omega arith)) _ c.value-value.ensures)
