-- Out of the parent, or by what the descriptor is found to be.
use Rattle.std.proofs.Common.{arith, sym}
use Rattle.descriptors.proofs.Laws.{Sound.{known_as}, Scan.{bounds, leaves, stops, skips, finds, passes_by, enters}}
use Rattle.descriptors.proofs.scan.Cursor.next.Goals as goal
use Rattle.descriptors.proofs.scan.Cursor.next.Goals.{then-self-k, else-self-k}

pub returns-then-self : goal.returns-then-self
returns-then-self c = leaves _ _ _ c.requires.0 c.requires.1 c.if-self.true _ c.around-self.ensures

pub overflow_add-self : goal.overflow_add-self
overflow_add-self c =
    let b = bounds _ _ _ c.requires.0 c.requires.1 in
    omega (arith, known_as _ _ _ _ _ (sym (rw c.in-Ok-Opaque.field-0-is at c.in-Ok-Opaque.ensures)))

pub overflow_add-self-in-Ok-Property-2 : goal.overflow_add-self-in-Ok-Property-2
overflow_add-self-in-Ok-Property-2 c =
    let b = bounds _ _ _ c.requires.0 c.requires.1 in
    let known = known_as _ _ _ _ _ (sym (rw c.in-Ok-Property.field-0-is at c.in-Ok-Property.ensures)) in
    elim c.if-self-k.branch [
      | then-self-k w ↦ rw w.self-is (omega (arith, known))
      | else-self-k w ↦ rw w.self-is (omega (arith, known))
    ]

pub overflow_add-self-in-Ok-Subset : goal.overflow_add-self-in-Ok-Subset
overflow_add-self-in-Ok-Subset c =
    let b = bounds _ _ _ c.requires.0 c.requires.1 in
    omega (arith, known_as _ _ _ _ _ (sym (rw c.in-Ok-Subset.field-0-is at c.in-Ok-Subset.ensures)))

pub returns-in-Err : goal.returns-in-Err
returns-in-Err c = stops _ _ _ c.requires.0 c.requires.1 c.if-self.false _ c.in-Err.ensures

pub returns-in-Ok-Opaque : goal.returns-in-Ok-Opaque
returns-in-Ok-Opaque c =
    skips _ _ _ c.requires.0 c.requires.1 c.if-self.false _ (rw c.in-Ok-Opaque.field-0-is at c.in-Ok-Opaque.ensures)

pub returns-after-self-k : goal.returns-after-self-k
returns-after-self-k c =
    let here = rw c.in-Ok-Property.field-0-is at c.in-Ok-Property.ensures in
    elim c.if-self-k.branch [
      | then-self-k w ↦ rw w.self-is (finds _ _ _ c.requires.0 c.requires.1 c.if-self.false _ here w.if-self-k.true)
      | else-self-k w ↦ rw w.self-is (passes_by _ _ _ c.requires.0 c.requires.1 c.if-self.false _ here w.if-self-k.false)
    ]

pub returns-in-Ok-Subset : goal.returns-in-Ok-Subset
returns-in-Ok-Subset c =
    enters _ _ _ c.requires.0 c.requires.1 c.if-self.false _ _ (rw c.in-Ok-Subset.field-0-is at c.in-Ok-Subset.ensures)
