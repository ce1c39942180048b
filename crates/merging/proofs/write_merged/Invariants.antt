-- `write_merged`: what is written with each snapshot at a record, of the key that was read there. A turn goes on to a greater key of the
-- first or of the second.
use Rattle.std.proofs.Common.{◌≡◌, ◌+◌, ◌-◌, drop}
use Rattle.snapshot.specs.{Keys.{keys}, Records.{key_at, some_key}}
use Rattle.merging.proofs.Laws.Writing.{Written}
use Rattle.merging.proofs.write_merged.Given as goal

abbrev pub invariant-loop-key : goal.invariant-loop-key
invariant-loop-key l = record {
  written : Written l.first l.second l.fn.out l.out l.a (key_at (drop l.a l.first)) l.b (key_at (drop l.b l.second)) l.n;
  first : l.x ≡ some_key (key_at (drop l.a l.first));
  second : l.y ≡ some_key (key_at (drop l.b l.second));
}

abbrev pub decreases-loop-key : goal.decreases-loop-key
decreases-loop-key l = keys - key_at (drop l.a l.first) + (keys - key_at (drop l.b l.second))
