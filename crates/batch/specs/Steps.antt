-- What the code's steps go by, which its private functions' promises cite. No statement and no public promise depends on this file.
use Rattle.std.specs.Prelude.{◌≡◌}
use Rattle.request.specs.declared.reply.Done.{Done}
use Rattle.camera.specs.{declared.record.Camera.{Camera}, Outcomes.{Outcome}}

-- what is handed on of one answer: how long its reply is, and the next record
abbrev pub answered : Outcome → Done Camera → Type 0
answered o d = (d.count ≡ o.count) × (d.next ≡ o.camera)
