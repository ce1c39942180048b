-- Each statement of specs/Theorems. Assumes nothing.
use native.Mathlib.Omega.{arith}
use mathlib.Core.{Path.{sym, ap, ◌∙◌}, List.{[]}}
use Rattle.snapshot.proofs.Laws.Form as form
use Rattle.snapshot.proofs.Theorems.{in_order}
use Rattle.merging.specs.Merging.{merged}
use Rattle.merging.specs.Theorems as specs
use Rattle.merging.proofs.Laws.Merging as merging
use Rattle.merging.proofs.Laws.Answers as answers

pub refusals : specs.MergeRefusals
refusals = answers.refused

pub merges : specs.AllMerge
merges a b =
    let w = merging.merged_formed a b in
    record { formed = w; has = λ k. ap (λ m. m k) (merging.decode_merged a b); in_order = in_order (merged a b) w }

pub associative : specs.Associative
associative = merging.merged_assoc

pub neutral : specs.Neutral
neutral s w = (form.nil_formed, (merging.merged_nil s w, merging.nil_merged s w))

pub commutes : specs.Commutes
commutes = merging.merged_comm

pub suffices : specs.Suffices
suffices a b out p q h = sym (answers.accepted a b out p q (omega (arith, merging.merged_length a b))).0

pub accepts : specs.AllAccepted
accepts a b out p q h =
    let r = answers.accepted a b out p q h in
    record { accepted = sym r.0; reported = sym r.1.0; is_handed = answers.handed_merged a b out p q h; buffer = sym r.1.1 }

pub program_associative : specs.ProgramAssociative
program_associative a b c p q out u v w f g h =
    let ab = accepts a b p u v f in
    let bc = accepts b c q v w g in
    let m = merging.merged_formed a b in
    let n = merging.merged_formed b c in
    rw (ab.is_handed, bc.is_handed) (
      ab.accepted,
      (
        bc.accepted,
        (
          (accepts (merged a b) c out m w h).accepted,
          answers.same_answer (merged a b) c out a (merged b c) m w u n (associative a b c),
        ),
      ),
    )

pub program_neutral : specs.ProgramNeutral
program_neutral s out w h =
    let e = merging.merged_nil s w in
    let r = accepts s [] out w form.nil_formed (rw e h) in
    let q = e ∙ sym (merging.nil_merged s w) in
    (r.accepted, (r.is_handed ∙ e, answers.same_answer s [] out [] s w form.nil_formed form.nil_formed w q))

pub program_commutes : specs.ProgramCommutes
program_commutes a b out p q h = answers.same_answer a b out b a p q q p (commutes a b h)
