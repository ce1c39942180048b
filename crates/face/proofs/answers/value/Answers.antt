-- `value`: the entries one after the other, and the bytes with their length as the answer is handed on.
use Rattle.std.proofs.Common.{◌≡◌, ◌+◌, ◌*◌, ◌∷◌, ℕ, length, arith, refl, ap, sym, ◌∙◌}
use Rattle.wire.specs.Writes.{overlay}
use Rattle.request.specs.Answers.{packed}
use Rattle.request.proofs.Laws.Packed.{blank, pack_is}
use Rattle.face.specs.{Limits.{address_at}, Answers.{entry_of, flags_at, entries_of}}
use Rattle.face.proofs.Laws.Answers.{length_entries, entries_next, value_byte, value_list}
use Rattle.face.proofs.answers.value.Goals as goal

pub returns-then-code-eq-GET_MIN : goal.returns-then-code-eq-GET_MIN
unfolding packed overlay
returns-then-code-eq-GET_MIN c = rw (value_byte c.args.l c.args.held c.args.code c.then-code-eq-GET_MIN.either) refl

pub loop-i-init : goal.loop-i-init
unfolding overlay entries_of
loop-i-init c = (omega arith, refl)

pub loop-i-preserved : goal.loop-i-preserved
loop-i-preserved c =
    let a = c.args in
    let i = c.loop-i.i in
    let e : c.entry_of-entry.result ≡ entry_of (address_at a.l i) (flags_at a.l a.held a.code i) =
    c.entry_of-entry.ensures ∙ ap (entry_of (address_at a.l i)) c.flags_at.ensures in (
      omega arith,
      c.copy.ensures ∙ ap (overlay c.loop-i.bytes (1 + 8 * i)) e
          ∙ entries_next a.l a.held a.code _ i c.loop-i.bytes (omega arith) c.loop-i.invariant.1,
    )

pub returns : goal.returns
returns c =
    let a = c.args in
    let n = c.endpoints_of-n.result in
    let v = n ∷ entries_of a.l a.held a.code n in
    let e : c.loop-i.i ≡ n = omega arith in
    let h : length v ≡ 1 + 8 * n = omega (arith, length_entries a.l a.held a.code n) in
    pack_is v (omega arith) c.loop-i.bytes (1 + 8 * n)
    (c.loop-i.invariant.1 ∙ ap (λ (i : ℕ). overlay blank 0 (n ∷ entries_of a.l a.held a.code i)) e) (sym h)
    ∙ ap packed
    (ap (λ (m : ℕ). m ∷ entries_of a.l a.held a.code m) c.endpoints_of-n.ensures.0
    ∙ sym (value_list a.l a.held a.code c.if-code-eq-GET_MIN.false c.if-code-eq-GET_RES.false))
