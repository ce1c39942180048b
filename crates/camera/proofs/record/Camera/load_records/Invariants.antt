-- The records before what is left are taken, and there one stands, or the end.
use Rattle.snapshot.specs.Records.{key_at, unread}
use Rattle.camera.proofs.Laws.Loading.{Loads}
use Rattle.camera.proofs.record.Camera.load_records.Given as goal

abbrev pub invariant-loop-key : goal.invariant-loop-key
invariant-loop-key l = Loads l.self l.s l.settings (unread l.key-iterator).now (key_at (unread l.key-iterator).now)
