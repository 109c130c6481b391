-- How much a call that places blocks draws, and how many places come by it.
use Rattle.std.proofs.Common.{◌≡◌, ℕ, zero, suc, ◌+◌, ◌-◌, ◌<◌, ◌≤◌, ◌^◌, List, [], ◌∷◌, ◌++◌, length, Bool, true, false, cond, Option, None, Some, refl, sym, ap, ◌∙◌, subst, arith, count_by}
use Rattle.std.specs.Prelude.{◌==◌, nat_lt, option_map, unwrap_or}
use Rattle.std.proofs.lemmas.List.{length-map}
use Rattle.std.proofs.lemmas.List.Sums.{count_by-le-length}
use Rattle.s3_rows.specs.declared.change.Change.{Change}
use Rattle.s3_rows.specs.declared.change.Change.TheVariants as changes
use Rattle.s3_rows.specs.Rows.{Block, Inode, InodeBlock, Object, Parameters}
use Rattle.s3_rows.specs.Keyed.{Order, put, without}
use Rattle.s3_rows.specs.Tables.{Tables, by_spot}
use Rattle.s3_rows.specs.Batches.{after_change, tables_after}
use Rattle.s3_rows.specs.Selections.{block_at, inode_block_at, object_at}
use Rattle.s3_rows.specs.Told.{IfTold, Told}
use Rattle.s3_devices.specs.Told.{Becomes}
use Rattle.row_lemmas.proofs.Tables.{tables_after-tables_after}
use Rattle.row_lemmas.proofs.Keyed.Length.{length-put}
use Rattle.row_lemmas.proofs.Keyed.Rest.{length-without}
use Rattle.core_model.specs.Safe.{with_new_object, with_new_objects}
use Rattle.ref_counts.specs.Links.{counted_block, link_replaced, link_set, lowered_block, lowered_object, places_dropped, places_from, relinked}
use Rattle.block_steps.specs.Owed.{next_block_of}
use Rattle.block_steps.specs.Places.{Places, block_made, places_relinked}
use Rattle.block_steps.proofs.DroppedPlaces.{inode_blocks-places_dropped, params-places_dropped, without_all}
use Rattle.block_steps.proofs.RelinkedForms.{inode_blocks-relinked}
use Rattle.file_ops.specs.declared.new_block.NewBlock.{NewBlock}
use Rattle.file_ops.specs.declared.place.Place.{Place}
use Rattle.file_ops.specs.declared.place.Place.TheVariants as places
use Rattle.file_ops.specs.FileChanges.{AreFew, next_object_of}
use Rattle.file_ops.specs.NewBlocks.{numbers_of}
use Rattle.file_ops.specs.Placed.{AreDrawn, WerePlaced, links_of, place_counted, places_counted, with_drawn, with_next_block}
use Rattle.file_ops.specs.Resolved.{digest_for, is_new, known_or_new, known_row, new_row, next_after, place_for, resolved}
use Rattle.file_ops.proofs.CutFiles.{cut_tables}
use Rattle.file_ops.proofs.Drawn.{params-with_new_objects}
use Rattle.file_ops.proofs.NamedBlocks.{by_parts, length-resolved}
use Rattle.file_ops.proofs.PlacedBlocks.{counted_split}

-- ---- next numbers, by the parameters

block_number : (u : Tables) (found : Option Parameters) → u.params ≡ found → next_block_of u ≡ unwrap_or (option_map (λ (p : Parameters). p.next_block) found) 0
block_number u found is = ap (λ (x : Option Parameters). unwrap_or (option_map (λ (p : Parameters). p.next_block) x) 0) is

object_number : (u : Tables) (found : Option Parameters) → u.params ≡ found → next_object_of u ≡ unwrap_or (option_map (λ (p : Parameters). p.next_object) found) 0
object_number u found is = ap (λ (x : Option Parameters). unwrap_or (option_map (λ (p : Parameters). p.next_object) x) 0) is

-- ---- tables with at most these next numbers, and so many places

pub record AreAtMost (block object count : ℕ) (u : Tables) : Type 0 where
  pub blocks : next_block_of u ≤ block
  pub objects : next_object_of u ≤ object
  pub rows : length u.inode_blocks ≤ count

at_most_from : (block object count more : ℕ) (u v : Tables) → v.params ≡ u.params → length v.inode_blocks ≤ length u.inode_blocks + more → AreAtMost block object count u
    → AreAtMost block object (count + more) v
at_most_from block object count more u v same long most =
    let of_block : next_block_of v ≡ next_block_of u = block_number v u.params same in
    let of_object : next_object_of v ≡ next_object_of u = object_number v u.params same in
    let blocks = most.blocks in
    let objects = most.objects in
    let rows = most.rows in
    record { blocks = omega (arith, of_block, blocks); objects = omega (arith, of_object, objects); rows = omega (arith, long, rows) }

at_most_same : (block object count other : ℕ) (u : Tables) → count ≡ other → AreAtMost block object count u → AreAtMost block object other u
at_most_same block object count other u same most = subst (λ (n : ℕ). AreAtMost block object n u) same most

-- ---- places that are counted

abbrev IsBelow : ℕ → Place → Type 0
IsBelow most places.Zeros = Unit {0}
IsBelow most (places.Known r) = Unit {0}
IsBelow most (places.New r) = r.id < most

abbrev AreBelow : ℕ → List Place → Type 0
AreBelow most [] = Unit {0}
AreBelow most (x ∷ xs) = IsBelow most x × AreBelow most xs

module _ (q : Parameters) (block object count : ℕ) (low : q.next_object ≤ object) where
  at_most_counted : (x : Place) → IsBelow block x → (u : Tables) (one : List Change) → place_counted q x u ≡ Some one → AreAtMost block object count u
      → AreAtMost block object count (tables_after one u)
  at_most_counted places.Zeros below u one is most =
      let none : [] ≡ one = cc is in
      subst (λ (cs : List Change). AreAtMost block object count (tables_after cs u)) none most
  at_most_counted (places.Known r) below u one is most = by_row (block_at u r.id) is
    where
      by_count : (b : Block) (k : Bool) → cond k (Some (changes.PutBlock (record b { refcount = b.refcount + 1 }) ∷ [])) None ≡ Some one → AreAtMost block object count (tables_after one u)
      by_count b true made =
          let same : changes.PutBlock (record b { refcount = b.refcount + 1 }) ∷ [] ≡ one = cc made in
          subst (λ (cs : List Change). AreAtMost block object count (tables_after cs u)) same (record { blocks = most.blocks; objects = most.objects; rows = most.rows })
      by_count b false made = absurd (cc made)

      by_row : (found : Option Block) → counted_block found ≡ Some one → AreAtMost block object count (tables_after one u)
      by_row None made = absurd (cc made)
      by_row (Some b) made = by_count b (nat_lt (b.refcount + 1) (2 ^ 62)) made
  at_most_counted (places.New r) below u one is most =
      let same : block_made (with_next_block r.id q) r.object r.digest r.size ≡ one = cc is in
      let under : r.id < block = below in
      let next : r.id + 1 ≤ block = omega (arith, under) in
      subst (λ (cs : List Change). AreAtMost block object count (tables_after cs u)) same (record { blocks = next; objects = low; rows = most.rows })

  at_most_all : (xs : List Place) → AreBelow block xs → (u : Tables) (more : List Change) → places_counted q xs u ≡ Some more → AreAtMost block object count u
      → AreAtMost block object count (tables_after more u)
  at_most_all [] below u more is most =
      let none : [] ≡ more = cc is in
      subst (λ (cs : List Change). AreAtMost block object count (tables_after cs u)) none most
  at_most_all (x ∷ xs) below u more is most =
      let s = counted_split q x xs u more is in
      subst (AreAtMost block object count) (tables_after-tables_after s.one s.rest u ∙ ap (λ (cs : List Change). tables_after cs u) (sym s.whole))
      (at_most_all xs below.1 (tables_after s.one u) s.rest s.others (at_most_counted x below.0 u s.one s.first most))

-- ---- numbers of places that are found

one_below : (digest_of : List ℕ → List ℕ) (t : Tables) (before : List Place) (block object most : ℕ) → block < most → (bytes : List ℕ)
    → IsBelow most (place_for digest_of t before block object bytes)
one_below digest_of t before block object most less [] = tt
one_below digest_of t before block object most less (b ∷ bytes) = by_row (known_row t before (digest_for digest_of (b ∷ bytes)))
  where
    by_row : (found : Option Block) → IsBelow most (known_or_new found (new_row digest_of block object (b ∷ bytes)))
    by_row (Some r) = tt
    by_row None = less

next_at_most : (x : Place) (n : ℕ) → next_after x n ≤ n + 1
next_at_most places.Zeros n = omega arith
next_at_most (places.Known r) n = omega arith
next_at_most (places.New r) n = omega arith

all_below : (digest_of : List ℕ → List ℕ) (t : Tables) (before : List Place) (block object most : ℕ) (blocks : List NewBlock) → block + length blocks ≤ most
    → AreBelow most (resolved digest_of t before block object blocks)
all_below digest_of t before block object most [] room = tt
all_below digest_of t before block object most (b ∷ bs) room =
    let x = place_for digest_of t before block object b.stored in
    let next : next_after x block ≤ block + 1 = next_at_most x block in
    let wide : block + suc (length bs) ≤ most = room in (
      one_below digest_of t before block object most (omega (arith, wide)) b.stored,
      all_below digest_of t (before ++ x ∷ []) (next_after x block) (next_after x object) most bs (omega (arith, wide, next)),
    )

-- ---- places that name other blocks

params-relinked : (t : Tables) (inode blockno : ℕ) (block : Option ℕ) → (tables_after (relinked t inode blockno block) t).params ≡ t.params
params-relinked t inode blockno block = by_place (inode_block_at t inode blockno) block
  where
    of_objects : (found : Option Object) (u : Tables) → (tables_after (lowered_object found) u).params ≡ u.params
    of_objects None u = refl
    of_objects (Some o) u = refl

    of_blocks : (now : Tables) (found : Option Block) (u : Tables) → (tables_after (lowered_block now found) u).params ≡ u.params
    of_blocks now None u = refl
    of_blocks now (Some b) u = by_count (b.refcount == 1)
      where
        by_count : (last : Bool) → (tables_after (cond last (changes.DeleteBlock b.id ∷ lowered_object (object_at now b.object)) (changes.PutBlock (record b { refcount = b.refcount - 1 }) ∷ [])) u).params ≡ u.params
        by_count true = of_objects (object_at now b.object) (after_change (changes.DeleteBlock b.id) u)
        by_count false = refl

    by_place : (found : Option InodeBlock) (new : Option ℕ) → (tables_after (link_replaced t inode blockno new found) t).params ≡ t.params
    by_place None None = refl
    by_place None (Some id) = refl
    by_place (Some old) None = of_blocks t (block_at t old.block) (after_change (link_set inode blockno None) t)
    by_place (Some old) (Some id) = of_blocks t (block_at t old.block) (after_change (link_set inode blockno (Some id)) t)

length-relinked : (t : Tables) (inode blockno : ℕ) (block : Option ℕ) → length (tables_after (relinked t inode blockno block) t).inode_blocks ≤ length t.inode_blocks + 1
length-relinked t inode blockno None =
    let same : length (tables_after (relinked t inode blockno None) t).inode_blocks ≡ length (without by_spot (inode, blockno) t.inode_blocks) = ap length (inode_blocks-relinked t inode blockno None) in
    let less : length (without by_spot (inode, blockno) t.inode_blocks) ≤ length t.inode_blocks = length-without by_spot (inode, blockno) t.inode_blocks in
    omega (arith, same, less)
length-relinked t inode blockno (Some id) =
    let row : InodeBlock = record { inode = inode; blockno = blockno; block = id } in
    let same : length (tables_after (relinked t inode blockno (Some id)) t).inode_blocks ≡ length (put by_spot row t.inode_blocks) = ap length (inode_blocks-relinked t inode blockno (Some id)) in
    let more : length (put by_spot row t.inode_blocks) ≤ suc (length t.inode_blocks) = length-put by_spot row t.inode_blocks in
    omega (arith, same, more)

at_most_linked : (block object count inode : ℕ) (links : Places) (u : Tables) → AreAtMost block object count u
    → AreAtMost block object (count + length links) (tables_after (places_relinked inode links u) u)
at_most_linked block object count inode [] u most = at_most_same block object count (count + 0) u (omega arith) most
at_most_linked block object count inode (place ∷ links) u most =
    let first = relinked u inode place.0 place.1 in
    let now = tables_after first u in
    let one : AreAtMost block object (count + 1) now =
    at_most_from block object count 1 u now (params-relinked u inode place.0 place.1) (length-relinked u inode place.0 place.1) most in
    at_most_same block object ((count + 1) + length links) (count + suc (length links)) (tables_after (first ++ places_relinked inode links now) u) (omega arith)
    (subst (AreAtMost block object ((count + 1) + length links)) (tables_after-tables_after first (places_relinked inode links now) u)
    (at_most_linked block object (count + 1) inode links now one))

length-links_of : (blocks : List NewBlock) (xs : List Place) → length (links_of blocks xs) ≤ length blocks
length-links_of [] xs = let none : 0 ≤ 0 = omega arith in none
length-links_of (b ∷ bs) [] = let none : 0 ≤ suc (length bs) = omega arith in none
length-links_of (b ∷ bs) (x ∷ xs) =
    let rest = length-links_of bs xs in
    let more : suc (length (links_of bs xs)) ≤ suc (length bs) = omega (arith, rest) in
    more

length-without_all : {K R : Type 0} (o : Order K R) (xs rows : List R) → length (without_all o xs rows) ≤ length rows
length-without_all o [] rows = omega arith
length-without_all o (x ∷ xs) rows =
    let rest = length-without_all o xs (without o (o.key x) rows) in
    let one = length-without o (o.key x) rows in
    omega (arith, rest, one)

-- ---- few

pub few_more : (count most : ℕ) (t after : Tables) → count ≤ most → AreFew count t after → AreFew most t after
few_more count most t after less few =
    let blocks = few.blocks in
    let objects = few.objects in
    let rows = few.places in
    record { blocks = omega (arith, less, blocks); objects = omega (arith, less, objects); places = omega (arith, less, rows) }

pub few_same : (count : ℕ) (t : Tables) → AreFew count t t
few_same count t = record { blocks = omega arith; objects = omega arith; places = omega arith }

-- places that go, and a row of a file, draw nothing
pub few_dropped : (count : ℕ) (t after : Tables) (rows : List InodeBlock) → AreFew count t after → AreFew count t (tables_after (places_dropped rows after) after)
few_dropped count t after rows few =
    let gone = tables_after (places_dropped rows after) after in
    let of_block : next_block_of gone ≡ next_block_of after = block_number gone after.params (params-places_dropped rows after) in
    let of_object : next_object_of gone ≡ next_object_of after = object_number gone after.params (params-places_dropped rows after) in
    let left : length gone.inode_blocks ≡ length (without_all by_spot rows after.inode_blocks) = ap length (inode_blocks-places_dropped rows after) in
    let less = length-without_all by_spot rows after.inode_blocks in
    let blocks = few.blocks in
    let objects = few.objects in
    let kept = few.places in
    record { blocks = omega (arith, of_block, blocks); objects = omega (arith, of_object, objects); places = omega (arith, left, less, kept) }

one_leaves_places : (p : Option Parameters) (t : Tables) → (with_new_object p t).inode_blocks ≡ t.inode_blocks
one_leaves_places None t = refl
one_leaves_places (Some p) t = refl

places-with_new_objects : (count : ℕ) (t : Tables) → (with_new_objects count t).inode_blocks ≡ t.inode_blocks
places-with_new_objects zero t = refl
places-with_new_objects (suc count) t = places-with_new_objects count (with_new_object t.params t) ∙ one_leaves_places t.params t

-- objects that were drawn
few_drawn : (count most : ℕ) (t after : Tables) (p : Parameters) → t.params ≡ Some p → count ≤ most → after ≡ with_new_objects count t → AreFew most t after
few_drawn count most t after p made less drawn =
    let now : after.params ≡ Some (record p { next_object = p.next_object + count }) = ap (λ (u : Tables). u.params) drawn ∙ params-with_new_objects count t p made in
    let block_before : next_block_of t ≡ p.next_block = block_number t (Some p) made in
    let block_now : next_block_of after ≡ p.next_block = block_number after (Some (record p { next_object = p.next_object + count })) now in
    let object_before : next_object_of t ≡ p.next_object = object_number t (Some p) made in
    let object_now : next_object_of after ≡ p.next_object + count = object_number after (Some (record p { next_object = p.next_object + count })) now in
    let rows : length after.inode_blocks ≡ length t.inode_blocks = ap (λ (u : Tables). length u.inode_blocks) drawn ∙ ap length (places-with_new_objects count t) in
    record {
      blocks = omega (arith, block_before, block_now);
      objects = omega (arith, object_before, object_now, less);
      places = omega (arith, rows);
    }

-- ---- blocks that were placed

module _ (digest_of : List ℕ → List ℕ) (inode : ℕ) (blocks : List NewBlock) (before after : Told) (batch now : List Change) (did : WerePlaced digest_of inode blocks before after batch now) where
  pub few_placed : (tables_after batch after.tables).params ≡ after.tables.params → (tables_after batch after.tables).inode_blocks ≡ after.tables.inode_blocks
      → AreFew (length blocks) before.tables (tables_after now after.tables)
  few_placed same_params same_places =
      by_parts digest_of inode blocks before after batch now did (λ xs w. AreFew (length blocks) before.tables w)
      (λ params made drawn more room adds. by_start params made drawn more adds)
    where
      by_start : (params : Parameters) → before.tables.params ≡ Some params
          → after.tables ≡ with_new_objects (count_by is_new (resolved digest_of before.tables [] params.next_block params.next_object blocks)) before.tables → (more : List Change)
          → places_counted (with_drawn (count_by is_new (resolved digest_of before.tables [] params.next_block params.next_object blocks)) params)
          (resolved digest_of before.tables [] params.next_block params.next_object blocks) (tables_after batch after.tables) ≡ Some more
          → AreFew (length blocks) before.tables
          (tables_after (places_relinked inode (links_of blocks (resolved digest_of before.tables [] params.next_block params.next_object blocks)) (tables_after more (tables_after batch after.tables)))
          (tables_after more (tables_after batch after.tables)))
      by_start params made drawn more adds =
          let t = before.tables in
          let xs = resolved digest_of t [] params.next_block params.next_object blocks in
          let count = count_by is_new xs in
          let q = with_drawn count params in
          let u = tables_after batch after.tables in
          let v = tables_after more u in
          let now_is : u.params ≡ Some q = same_params ∙ ap (λ (x : Tables). x.params) drawn ∙ params-with_new_objects count t params made in
          let block_before : next_block_of t ≡ params.next_block = block_number t (Some params) made in
          let object_before : next_object_of t ≡ params.next_object = object_number t (Some params) made in
          let block_now : next_block_of u ≡ params.next_block = block_number u (Some q) now_is in
          let object_now : next_object_of u ≡ params.next_object + count = object_number u (Some q) now_is in
          let rows : length u.inode_blocks ≡ length t.inode_blocks = ap length same_places ∙ ap (λ (x : Tables). length x.inode_blocks) drawn ∙ ap length (places-with_new_objects count t) in
          let some : count ≤ length xs = count_by-le-length is_new xs in
          let long : length xs ≡ length blocks = length-resolved digest_of t [] params.next_block params.next_object blocks in
          let low : params.next_object + count ≤ params.next_object + length blocks = omega (arith, some, long) in
          let start : AreAtMost (params.next_block + length blocks) (params.next_object + length blocks) (length t.inode_blocks) u =
          record { blocks = omega (arith, block_now); objects = omega (arith, object_now, some, long); rows = omega (arith, rows) } in
          let counted : AreAtMost (params.next_block + length blocks) (params.next_object + length blocks) (length t.inode_blocks) v =
          at_most_all q (params.next_block + length blocks) (params.next_object + length blocks) (length t.inode_blocks) low xs
          (all_below digest_of t [] params.next_block params.next_object (params.next_block + length blocks) blocks (omega arith)) u more adds start in
          let linked = at_most_linked (params.next_block + length blocks) (params.next_object + length blocks) (length t.inode_blocks) inode (links_of blocks xs) v counted in
          let few_links = length-links_of blocks xs in
          let of_blocks = linked.blocks in
          let of_objects = linked.objects in
          let of_rows = linked.rows in
          record {
            blocks = omega (arith, block_before, of_blocks);
            objects = omega (arith, object_before, of_objects);
            places = omega (arith, of_rows, few_links);
          }

-- ---- what is told

pub both_told : (R : Told → Told → Type 0) (P : Tables → Tables → Type 0) → ((a b : Told) → R a b → P a.tables b.tables) → (before after : Option Told) → Becomes R before after
    → IfTold before (λ t. IfTold after (λ later. P t later))
both_told R P follows None after fact = tt
both_told R P follows (Some a) None fact = tt
both_told R P follows (Some a) (Some b) fact = follows a b fact

-- the same is told
pub told_few_same : (count : ℕ) (before after : Option Told) → after ≡ before → IfTold before (λ t. IfTold after (λ later. AreFew count t later))
told_few_same count None after same = tt
told_few_same count (Some a) None same = tt
told_few_same count (Some a) (Some b) same =
    let back : b ≡ a = cc same in
    subst (λ (x : Told). AreFew count a.tables x.tables) (sym back) (few_same count a.tables)

-- objects were drawn
pub told_few_drawn : (count most : ℕ) (p : Parameters) (before middle after : Option Told) → count ≤ most → IfTold before (λ t. t.params ≡ Some p) → middle ≡ before
    → Becomes (AreDrawn p count) middle after → IfTold before (λ t. IfTold after (λ later. AreFew most t later))
told_few_drawn count most p before middle after less made same drawn =
    by_told before after made (subst (λ (o : Option Told). Becomes (AreDrawn p count) o after) same drawn)
  where
    by_told : (a b : Option Told) → IfTold a (λ t. t.params ≡ Some p) → Becomes (AreDrawn p count) a b → IfTold a (λ t. IfTold b (λ later. AreFew most t later))
    by_told None b is fact = tt
    by_told (Some x) None is fact = tt
    by_told (Some x) (Some y) is fact = few_drawn count most x.tables y.tables p is less (fact is).0

-- a fact of tables before and after, by another and by one of those after
pub told_both : (P R : Tables → Tables → Type 0) (D : Tables → Type 0) → ((t later : Tables) → P t later → D later → R t later) → (before middle after : Option Told) → after ≡ middle
    → IfTold before (λ t. IfTold middle (λ later. P t later)) → IfTold middle D → IfTold before (λ t. IfTold after (λ later. R t later))
told_both P R D follows before middle after same fact also =
    subst (λ (o : Option Told). IfTold before (λ t. IfTold o (λ later. R t later))) (sym same) (by_told before middle fact also)
  where
    by_told : (a b : Option Told) → IfTold a (λ t. IfTold b (λ later. P t later)) → IfTold b D → IfTold a (λ t. IfTold b (λ later. R t later))
    by_told None b one two = tt
    by_told (Some x) None one two = tt
    by_told (Some x) (Some y) one two = follows x.tables y.tables one two

-- a file that is cut
pub few_cut : (count : ℕ) (t later : Tables) (placed dropped batch : List Change) (id from : ℕ) (row : Inode)
    → dropped ≡ placed ++ places_dropped (places_from later id from) (tables_after placed later) → batch ≡ dropped ++ changes.PutInode row ∷ []
    → AreFew count t (tables_after placed later) → AreFew count t (tables_after batch later)
few_cut count t later placed dropped batch id from row drops puts few =
    let left = few_dropped count t (tables_after placed later) (places_from later id from) few in
    subst (AreFew count t) (sym (cut_tables later placed dropped batch id from row drops puts))
    (record { blocks = left.blocks; objects = left.objects; places = left.places })

-- ---- blocks that change

-- a fact by how many blocks there are, where their numbers are known
pub few_answer : (P : ℕ → Tables → Tables → Type 0) → ((a b : ℕ) (t later : Tables) → a ≤ b → P a t later → P b t later) → (before middle after : Option Told) (most : ℕ)
    (blocks seen : List NewBlock) (numbers : Tables → List ℕ) → middle ≡ before → seen ≡ blocks → IfTold before (λ t. numbers_of blocks ≡ numbers t)
    → ((t : Tables) → length (numbers t) ≤ most) → IfTold middle (λ t. IfTold after (λ later. P (length seen) t later)) → IfTold before (λ t. IfTold after (λ later. P most t later))
few_answer P more None middle after most blocks seen numbers same value is few fact = tt
few_answer P more (Some s) None after most blocks seen numbers same value is few fact = absurd (cc same)
few_answer P more (Some s) (Some m) None most blocks seen numbers same value is few fact = tt
few_answer P more (Some s) (Some m) (Some l) most blocks seen numbers same value is few fact =
    let equal : m ≡ s = cc same in
    let whole : length seen ≡ length (numbers s.tables) =
    ap length value ∙ sym (length-map blocks (λ (b : NewBlock). b.blockno)) ∙ ap length is in
    let low : length (numbers s.tables) ≤ most = few s.tables in
    more (length seen) most s.tables l.tables (omega (arith, whole, low)) (subst (λ (x : Told). P (length seen) x.tables l.tables) equal fact)
