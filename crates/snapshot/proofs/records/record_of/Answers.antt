-- `record_of`: a number that is no key has no record; else a record of the key stands at the cursor, or s has none.
use Rattle.std.proofs.Common.{ap, sym, subst, ◌∙◌}
use mathlib.Core.Option.{some}
use Rattle.wire.specs.Parts.{PartOf}
use Rattle.snapshot.specs.Records.{decode}
use Rattle.snapshot.proofs.Laws.{Maps.{decode_good, none_above}, Handed.{found, not_found}, Cursor.{cursor_record, cursor_place, cursor_none}}
use Rattle.snapshot.proofs.records.record_of.Goals as goal

pub returns-then-key-ge-KEYS : goal.returns-then-key-ge-KEYS
returns-then-key-ge-KEYS c = let s = c.args.s.now in none_above (decode s) (decode_good s) c.args.key c.if-key-ge-KEYS.true

pub returns-then-ne : goal.returns-then-ne
returns-then-ne c = cursor_none _ _ _ c.start_of-at.ensures (not_found _ _ _ c.key_at.ensures c.if-ne.ensures)

pub returns : goal.returns
returns c =
    let b = c.start_of-at.ensures in
    let f = found _ _ _ c.key_at.ensures c.if-ne.ensures in
    let p = rw c.record_length-len.ensures at c.part_at.ensures in
    (cursor_record _ _ _ b f.1 ∙ ap some (sym p.bytes), subst (λ q. PartOf c.args.s q c.part_at.result) (cursor_place _ _ _ b f.1 f.0) p)
