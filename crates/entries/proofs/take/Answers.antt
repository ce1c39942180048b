-- `take`: an entry that is refused ends the SET, and one that is taken goes to its place.
use Rattle.std.proofs.Common.{◌≡◌, length, arith, rules, refl, ap, ◌∙◌}
use Rattle.std.proofs.lemmas.Result.{err_from_is_err_and}
use lib.ListN.{length-set}
use Rattle.wire.proofs.Laws.Refusals.{not_accepted}
use Rattle.entries.proofs.Laws.Held.{length-put}
use Rattle.entries.proofs.Laws.Entries.{walked_none, entry_unlisted, entry_listed, walked_next, taken_refused, taken_all}
use Rattle.entries.proofs.take.Goals as goal

pub loop-i-init : goal.loop-i-init
loop-i-init c = (omega arith, refl, search rules, walked_none _ _ _ (search rules))

pub returns-in_default : goal.returns-in_default
returns-in_default c =
    let w = c.loop-i.invariant.3 in
    taken_refused _ _ _ _ _ _ _ (c.from-i-end.ensures ∙ c.byte.ensures) w c.loop-i-test.true _
    (entry_unlisted _ _ _ _ _ _ w _ _ c.byte-address.ensures c.place_of.ensures.value c.in_default.is) (λ z. omega arith)

pub returns-in_err-check : goal.returns-in_err-check
returns-in_err-check c =
    let w = c.loop-i.invariant.3 in
    let p = err_from_is_err_and c.from_residual.result c.from_residual.ensures.1 in
    let e = c.in_err-check.field-0.0 in
    rw (p.1, p.2)
    (taken_refused _ _ _ _ _ _ _ (c.from-i-end.ensures ∙ c.byte.ensures) w c.loop-i-test.true _
    (entry_listed _ _ _ _ _ _ w _ _ c.byte-address.ensures c.place_of.ensures.value _ c.in-Some.is c.in-Some.ensures.within _ _
    c.flag_word-flags.ensures.0 c.in_err-check.ensures.value)
    (not_accepted e))

pub loop-i-preserved : goal.loop-i-preserved
loop-i-preserved c =
    let w = c.loop-i.invariant.3 in
    let on =
    walked_next _ _ _ _ _ _ w _ _ c.byte-address.ensures c.place_of.ensures.value _ c.in-Some.is c.in-Some.ensures.within _ _
    c.flag_word-flags.ensures.0 c.in_ok-check.ensures.value c.loop-i.invariant.1 refl in (
      omega arith,
      simp length-set c.loop-i.invariant.1,
      ap length c.lay.ensures ∙ length-put c.loop-i.next _ _ ∙ c.loop-i.invariant.2,
      rw c.lay.ensures on,
    )

pub returns : goal.returns
returns c =
    let e : c.loop-i.i ≡ c.from-i-end.result = omega arith in
    taken_all _ _ _ _ _ _ _ (c.from-i-end.ensures ∙ c.byte.ensures) c.loop-i.invariant.3 e
