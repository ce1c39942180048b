-- The owner's demands on frame metadata and what request #105 of document 02 asks, over the definitions that the functions' promises name.
use Prim.Native.Nat.{ℕ, ◌^◌, ◌≤◌, ◌<◌}
use mathlib.Core.{Path.{◌≡◌, refl, sym, ap, ◌∙◌}, List.{List, [], ◌∷◌, ◌++◌}, Bool.{true}}
use native.Mathlib.Omega.{arith}
use lib.ListN.{length, take, length-append, get_or-append}
use Rattle.frame.specs.{Items.{Found, refused_item}, Codes.{longest_block}, View.{ItemView, Views}}
use Rattle.frame.specs.{Ids.{is_known, is_newer}, Cut.{without_unknown, known_of, known_index}}
use Rattle.frame.specs.Items.{MetadataItem, absent, BlockReading, refused, sound, block_items, nth_item, found_in, count_in}
use Rattle.frame.specs.Items.{Readable, block_item, block_count, block_payload}
use Rattle.frame.specs.Theorems.{FrameRefused, HandedOut, Viewed, AppendReadsBack, appending, afterwards}
use Rattle.frame.specs.Theorems.{NoneUnknown, WrittenAgain, Marked, NothingCut, SameItem, SameView, KnownStay, KnownIndex}
use Rattle.frame.specs.Theorems.{SameTold, KnownTold, TakenBefore, ReadAsBefore}
use Rattle.std.specs.Prelude.{Result, Ok, Err}
use Rattle.frame.specs.declared.{view.ItemView.{ItemView as View}, refusals.Refusal.{Refusal}}
use Rattle.frame.specs.Answers.{code_of, is_refused, TellsView}
use borrow.Author.Tests.{eqb-false}
use Rattle.frame.proofs.Laws.Told.{told_apart}
use Rattle.frame.specs.{Writer.{layout, Writable}, Calls.{FrameCall, item, count, append, frame_outcome}}
use Rattle.wire.proofs.Laws.{Numbers.{Bytes}, Parts.{stands_at}}
use denote.Ref.{Bor}
use Rattle.wire.specs.Parts.{bytes_at, LiesIn}
use Rattle.frame.proofs.Laws.{Walk.{short_enough}, Located.{located, there, not_there}, Layout.{reads_all, written_again}}
use Rattle.frame.proofs.Laws.Appended.{sound_block, before_it, last_item, last_of, new_length, new_items}
use Rattle.frame.proofs.Laws.Known.{AllKnown, known_all, nth_known, unmarked, all_unmarked, known_writable, kth}
use Rattle.frame.proofs.Laws.{Ids.{known_readable}, Cut.{holds_known, own-cut}, Before.{same_block, before_unmarked}}
use Rattle.frame.proofs.Laws.{Append.{accepted, accepts, reports}, Refusals.{item_refused, count_refused, append_refused}}

-- Demand 1: what a refused call leaves.
pub refusal_leaves_nothing : (c : FrameCall) → ((frame_outcome c).code ≡ 0 → ⊥) → FrameRefused c (frame_outcome c)
unfolding frame_outcome
refusal_leaves_nothing (item block k) n =
    let e = item_refused block k n in
    record { unchanged = refl; zeros = rw e (refl, tt); empty = rw e (refl, tt); unmarked = rw e (refl, tt) }
refusal_leaves_nothing (count block) n = record { unchanged = refl; zeros = (count_refused block n, tt); empty = tt; unmarked = tt }
refusal_leaves_nothing (append buf at id bytes) n =
    let e = append_refused buf at id bytes n in
    record { unchanged = e.1; zeros = (e.0, tt); empty = tt; unmarked = tt }

-- Demand 1: a call stays inside its buffers. The part of each answer lies in what was lent, on a refusal too.
pub payload_inside : (block : List ℕ) (k : ℕ) → LiesIn block (block_item block k).payload
unfolding block_item
payload_inside block k = go (block_items block) refl
  where
    go : (f : BlockReading) → block_items block ≡ f → LiesIn block (found_in k f).payload
    go (refused code) e = omega arith
    go (sound is) e = (located block is (sound_block block is e).1 k).inside

-- Demand 2: item k of a sound block is handed out with its id and its payload, and where there is none the answer says so.
found : (block : List ℕ) (is : List MetadataItem) (k : ℕ) → block_items block ≡ sound is → block_item block k ≡ nth_item 0 k is
unfolding block_item
found block is k e = ap (found_in k) e

pub item_handed_out : (block : List ℕ) (is : List MetadataItem) → block_items block ≡ sound is → (k : ℕ) → HandedOut block is k
unfolding block_payload
item_handed_out block is e k =
    let f = found block is k e in
    let l = located block is (sound_block block is e).1 k in
    record {
      there = λ h. ap (λ (r : Found). r.code) f ∙ there 0 k is h;
      its_id = ap (λ (r : Found). r.id) f ∙ l.its_id;
      its_mark = ap (λ (r : Found). r.unknown) f ∙ l.its_mark;
      its_payload = ap (λ (r : Found). bytes_at block r.payload) f ∙ l.bytes;
      no_other = λ h. f ∙ not_there 0 k is h;
    }

-- Demand 2: what a view of an item hands back.
pub view_handed_out : (block : Bor (List ℕ)) (k : ℕ) (v : ItemView) → Views block (block_item block.now k) v → Viewed block k v.payload
unfolding block_payload
view_handed_out block k v w =
    let p = (block_item block.now k).payload in
    record { memory = w.part.memory; place = stands_at p (omega (arith, payload_inside block.now k)) w.part; bytes = w.part.bytes }

-- Demand 2: what we write reads back the same. An item appended behind a sound block is the last of the items there, and those before it
-- are handed out as they were.
reads-back : (block new : List ℕ) (is : List MetadataItem) (i : MetadataItem) → is_known i.id ≡ true
    → block_items block ≡ sound is → block_items new ≡ sound (is ++ i ∷ []) → AppendReadsBack block is i new
unfolding block_count
reads-back block new is i known e f =
    let out = item_handed_out new (is ++ i ∷ []) f in
    record {
      items = f;
      one_more = rw f (ap (λ (n : ℕ). record { code = 0; items = n }) (length-append is (i ∷ [])));
      earlier = λ k h. (
        found new (is ++ i ∷ []) k f ∙ before_it 0 k is (i ∷ []) h ∙ sym (found block is k e),
        (out k).its_payload
            ∙ ap (λ (j : MetadataItem). j.payload) (get_or-append is (i ∷ []) absent k h)
            ∙ sym (item_handed_out block is e k).its_payload,
      );
      last = rw known at (found new (is ++ i ∷ []) (length is) f ∙ last_item block is i (sound_block block is e).1);
      last_payload = (out (length is)).its_payload ∙ ap (λ (j : MetadataItem). j.payload) (last_of is i absent);
    }

pub appended_reads_back : (block buf : List ℕ) (is : List MetadataItem) (i : MetadataItem)
    → block_items block ≡ sound is → take (length block) buf ≡ block → i.id < 256 ^ 4
    → (appending block buf i).code ≡ 0 → AppendReadsBack block is i (afterwards block buf i)
appended_reads_back block buf is i e begins small a =
    let z = accepts (length buf) (length block) i.id (length i.payload) a in
    let fits = accepted (length buf) (length block) i.id (length i.payload) z in
    let short = fits.short in
    let new = new_items block buf i.id i.payload begins z is (sound_block block is e).1 small in
    let long = new_length block buf i.id i.payload begins z in
    rw (← (reports (length buf) (length block) i.id (length i.payload) z))
    (reads-back block _ is i fits.known e (sym (short_enough _ (omega arith)) ∙ new))

-- Demand 2, the other way round: a sound block is its items laid out one behind the other, and such a block reads back as those items.
all_known : (block : List ℕ) (is : List MetadataItem) → block_items block ≡ sound is → NoneUnknown block → AllKnown is
all_known block is e u = all_unmarked 0 is (λ k. sym (ap (λ (f : Found). f.unknown) (found block is k e)) ∙ u k)

pub block_written_again : (block : List ℕ) (is : List MetadataItem) → Bytes block → block_items block ≡ sound is → WrittenAgain block is
block_written_again block is b e =
    let w = written_again block is (sound_block block is e).1 b in
    record { bytes = w.0; readable = w.1; writable = λ u. known_writable is w.1 (all_known block is e u) }

pub items_read_back : (is : List MetadataItem) → Readable is → length (layout is) ≤ longest_block → block_items (layout is) ≡ sound is
items_read_back is g h = sym (short_enough (layout is) h) ∙ reads_all is g h

-- what may be written may be read
pub writable_readable : (is : List MetadataItem) → Writable is → Readable is
writable_readable [] g = tt
writable_readable (i ∷ is) g = (known_readable i.id g.0, g.1, writable_readable is g.2)

-- #105: the mark of every answer says just whether its id is from 7 to 0x7FFFFFFF.
pub marked : (block : List ℕ) (k : ℕ) → Marked block k
unfolding block_item is_newer
marked block k = go (block_items block) refl
  where
    go : (f : BlockReading) → block_items block ≡ f → (found_in k f).unknown ≡ is_newer (found_in k f).id
    go (refused code) e = refl
    go (sound is) e =
        let l = located block is (sound_block block is e).1 k in
        l.its_mark ∙ ap is_newer (sym l.its_id)

-- #105: the known items of a sound block are those of the block with the unknown ones cut out.
pub known_stay : (block : List ℕ) (is : List MetadataItem) → block_items block ≡ sound is → KnownStay block is
known_stay block is e =
    let s = sound_block block is e in
    let h = holds_known block is s.1 in
    let cut : block_items (without_unknown block) ≡ sound (known_of is) = sym (short_enough _ (omega (arith, s.0, h.1))) ∙ h.0 in
    record {
      items = cut;
      none_unknown = λ k. ap (λ (f : Found). f.unknown) (found _ _ k cut) ∙ unmarked 0 k (known_of is) (known_all is);
      shorter = h.1;
      same = same cut;
    }
  where
    same : block_items (without_unknown block) ≡ sound (known_of is) → (k : ℕ) → SameItem block (known_index k is) (without_unknown block) k
    same cut k =
        let p = kth k is in
        let ours = item_handed_out block is e (known_index k is) in
        let theirs = item_handed_out (without_unknown block) (known_of is) cut k in
        let i = p.item in
        record {
          number = ap (λ (f : Found). f.code) (found block is _ e) ∙ p.number 0 0 ∙ sym (ap (λ (f : Found). f.code) (found _ _ k cut));
          its_id = ours.its_id ∙ ap (λ (j : MetadataItem). j.id) i ∙ sym theirs.its_id;
          mark = ours.its_mark ∙ ap (λ (j : MetadataItem). is_newer j.id) i ∙ sym theirs.its_mark;
          payload = ours.its_payload ∙ ap (λ (j : MetadataItem). j.payload) i ∙ sym theirs.its_payload;
        }

-- the same of what a view of each hands back
pub known_views : (block cut : Bor (List ℕ)) (is : List MetadataItem) (k : ℕ) (v w : ItemView) → block_items block.now ≡ sound is
    → cut.now ≡ without_unknown block.now → Views block (block_item block.now (known_index k is)) v
    → Views cut (block_item cut.now k) w → SameView v w
known_views block cut is k v w e c p q =
    let s : SameItem block.now (known_index k is) cut.now k = rw c ((known_stay block.now is e).same k) in
    let a = view_handed_out block (known_index k is) v p in
    let b = view_handed_out cut k w q in
    record {
      number = p.same_code ∙ s.number ∙ sym q.same_code;
      its_id = p.same_id ∙ s.its_id ∙ sym q.same_id;
      mark = p.same_mark ∙ s.mark ∙ sym q.same_mark;
      payload = a.bytes ∙ s.payload ∙ sym b.bytes;
    }

-- and of what `item_view` answers for each, a refusal too
pub known_told : KnownTold
known_told block cut is k r s e c = go r s
  where
    number : (block_item block.now (known_index k is)).code ≡ (block_item cut.now k).code
    number =
        let s : SameItem block.now (known_index k is) cut.now k = rw c ((known_stay block.now is e).same k) in
        s.number

    code : {f : Found} {n : ℕ} → f ≡ refused_item n → f.code ≡ n
    code h = ap (λ (f : Found). f.code) h

    go : (r s : Result View Refusal) → TellsView block (block_item block.now (known_index k is)) r
        → TellsView cut (block_item cut.now k) s → SameTold r s
    go (Ok v) (Ok w) p q = let t = known_views block cut is k _ _ e c p q in (t.its_id, t.mark, t.payload)
    go (Ok v) (Err f) p q = absurd (eqb-false (code_of f) 0 (is_refused f) (sym (p.same_code ∙ number ∙ code q)))
    go (Err e) (Ok w) p q = absurd (eqb-false (code_of e) 0 (is_refused e) (sym (code p) ∙ number ∙ sym q.same_code))
    go (Err e) (Err f) p q = told_apart e f (sym (code p) ∙ number ∙ code q)

-- which item of the block that is
pub known_index_lem : (is : List MetadataItem) (k : ℕ) → KnownIndex is k
known_index_lem is k =
    let p = kth k is in
    record {
      there = λ l. (p.inside l, ap (λ (i : MetadataItem). is_known i.id) p.item ∙ nth_known k (known_of is) (known_all is) l);
      before = p.before;
      none = p.none;
    }

-- #105: a sound block without unknown items is its own cut.
pub nothing_cut : (block : List ℕ) (is : List MetadataItem) → block_items block ≡ sound is → NothingCut block
nothing_cut block is e u = own-cut block is (sound_block block is e).1 (all_known block is e u)

-- #105: every block, sound or not, that the rules before it do not refuse 0x41 is read as before.
pub read_as_before : (block : List ℕ) → TakenBefore block → ReadAsBefore block
unfolding block_item block_count
read_as_before block n =
    let e = same_block block n in
    record {
      items = e;
      counted = ap count_in e;
      found = λ k. ap (found_in k) e;
      none_unknown = λ k. ap (λ (f : BlockReading). (found_in k f).unknown) e ∙ before_unmarked k block;
    }
