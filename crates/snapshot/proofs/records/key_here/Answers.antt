-- `key_here`: the numbers that are read tell the key, a throttle's tail aside.
use Rattle.std.proofs.Common.{sym, ap, ◌∙◌, arith}
use Rattle.snapshot.specs.Records.{some_key}
use Rattle.snapshot.proofs.Laws.Told.{told_by, other_key, zero_key, tail_none}
use Rattle.snapshot.proofs.Laws.Handed.{handed_some, handed_none, none_handed}
use Rattle.snapshot.proofs.records.key_here.Goals as goal
use Rattle.snapshot.proofs.records.key_here.Goals.{else-key-eq-THROTTLE_KEY-via-then-key-eq-THROTTLE_KEY+else-not-zero_tail}
use Rattle.snapshot.proofs.records.key_here.Goals.{else-key-eq-THROTTLE_KEY-via-else-key-eq-THROTTLE_KEY}

pub returns-in_err-key : goal.returns-in_err-key
returns-in_err-key c =
    let r = c.args.r.now in
    let e = told_by r c.le16-len.ensures.0 c.le16-kind.ensures.0 c.from-entries.ensures c.from-address.ensures c.key_by.ensures in
    let n = handed_none _ (sym c.in_err-key.was ∙ e) in
    c.from_residual.ensures ∙ sym c.in_err-key.was ∙ e ∙ ap some_key (other_key r (omega arith) (λ f. omega arith))

pub returns-then-not-zero_tail : goal.returns-then-not-zero_tail
returns-then-not-zero_tail c =
    let r = c.args.r.now in
    let e = told_by r c.le16-len.ensures.0 c.le16-kind.ensures.0 c.from-entries.ensures c.from-address.ensures c.key_by.ensures in
    let n = handed_some _ _ (sym c.in_ok-key.was ∙ e) in
    none_handed _ (omega (arith, tail_none r (omega arith) (omega (arith, n.0)) (sym c.zero_tail.ensures ∙ c.if-not-zero_tail.true)))

pub returns : goal.returns
returns c =
    let r = c.args.r.now in
    let e = told_by r c.le16-len.ensures.0 c.le16-kind.ensures.0 c.from-entries.ensures c.from-address.ensures c.key_by.ensures in
    let n = handed_some _ _ (sym c.in_ok-key.was ∙ e) in
    sym c.in_ok-key.was ∙ e ∙ ap some_key (elim c.else-key-eq-THROTTLE_KEY.branch [
      | else-key-eq-THROTTLE_KEY-via-then-key-eq-THROTTLE_KEY+else-not-zero_tail w ↦
          zero_key r (omega arith) (omega (arith, n.0)) (sym w.zero_tail.ensures ∙ w.if-not-zero_tail.false)
      | else-key-eq-THROTTLE_KEY-via-else-key-eq-THROTTLE_KEY w ↦ other_key r (omega arith) (λ f. omega (arith, n.0))
    ])
