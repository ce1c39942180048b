-- The five controls by their selectors.
use Rattle.std.specs.Prelude.{ℕ}
use Rattle.wire.specs.Selectors as selector

pub data KnownControl : ℕ → Type 0 where
  ev : KnownControl selector.ev
  face : KnownControl selector.face
  metadata : KnownControl selector.metadata
  hdr : KnownControl selector.hdr
  throttle : KnownControl selector.throttle
