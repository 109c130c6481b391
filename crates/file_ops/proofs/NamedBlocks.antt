-- Places that name their blocks, once all of these are counted.
use Rattle.std.proofs.Common.{◌≡◌, ℕ, suc, ◌+◌, ◌≤◌, ◌^◌, List, [], ◌∷◌, ◌++◌, length, Bool, true, false, Option, None, Some, refl, sym, ap, ◌∙◌, subst, count_by, arith}
use Rattle.std.specs.Prelude.{IsTrue, Contains, ◌==◌, ◌&&◌, ◌||◌, find, nat_le, not, option_and_then, option_map}
use Rattle.std.specs.List.{list_all, list_any}
use Rattle.std.specs.Ordering.{is_eq}
use Rattle.s3_rows.specs.declared.change.Change.{Change}
use Rattle.s3_rows.specs.Rows.{Block, Inode, Object, Parameters}
use Rattle.s3_rows.specs.Keyed.{rises, row_at}
use Rattle.s3_rows.specs.Tables.{Tables, by_block, by_object}
use Rattle.s3_rows.specs.Batches.{tables_after}
use Rattle.s3_rows.specs.Selections.{block_at, bytes_cmp, object_at}
use Rattle.s3_rows.specs.Validity.{IsValid, differ, has_inode, is_in_file, is_regular}
use Rattle.s3_rows.specs.Told.{IfTold, Told}
use Rattle.s3_devices.specs.Told.{Becomes}
use Rattle.row_lemmas.proofs.Tables.{tables_after-tables_after}
use Rattle.row_lemmas.proofs.Tests.{list_all_weaker}
use Rattle.tree_rows.specs.Contents.{Contents, HaveBytes}
use Rattle.tree_rows.specs.Spots.{form_at, form_of_row}
use Rattle.core_model.specs.Safe.{with_new_objects}
use Rattle.ref_counts.specs.Links.{AreRowsOf}
use Rattle.block_steps.specs.Owed.{KeepsNames, OwesPlaces, times}
use Rattle.block_steps.specs.Places.{Places, blocks_named, is_among_places, places_relinked}
use Rattle.file_ops.specs.declared.new_block.NewBlock.{NewBlock}
use Rattle.file_ops.specs.declared.place.Place.{Place}
use Rattle.file_ops.specs.Placed.{AreCounted, ArePlaceable, ArePlaced, AreReady, HaveTheirForms, KnowsBlocks, WerePlaced, links_of, places_counted, with_drawn, with_next_block}
use Rattle.file_ops.specs.Resolved.{is_new, next_after, place_for, resolved}
use Rattle.file_ops.proofs.CountedPlaces.{AreCounting, CountLaws}
use Rattle.file_ops.proofs.KeptBlocks.{HasItsBytes, HaveBytes-put, KeptLaws, counted_keeps, new_have_bytes}
use Rattle.file_ops.proofs.PlacedForms.{all_forms}
use Rattle.file_ops.proofs.Drawn.{params-with_new_objects}
use Rattle.file_ops.proofs.PlacedBlocks.{blocks-with_new_objects, counting_all, drawn_there, ids_onto, times-ids_onto}

-- the laws of places that name other blocks
pub record LinkLaws : Type 0 where
  pub none_owed : (t : Tables) (p : Parameters) → IsValid t → t.params ≡ Some p → OwesPlaces t p []
  pub order : (t : Tables) (p : Parameters) (blocks others : List ℕ) → ((id : ℕ) → times id others ≡ times id blocks) → OwesPlaces t p blocks → OwesPlaces t p others
  pub same : (t : Tables) → KeepsNames t t
  pub valid : (t : Tables) (p : Parameters) (inode : ℕ) (places : Places) → OwesPlaces t p (blocks_named places) → IsTrue (has_inode is_regular t inode)
      → IsTrue (list_all (λ place. is_in_file t p inode place.0) places) → IsValid (tables_after (places_relinked inode places t) t)
  pub names : (t : Tables) (inode : ℕ) (places : Places) → KeepsNames t (tables_after (places_relinked inode places t) t)
  pub rows : (t : Tables) (inode : ℕ) (places : Places) → AreRowsOf t (tables_after (places_relinked inode places t) t)
  pub forms : (t : Tables) (p : Parameters) (inode : ℕ) (places : Places) → OwesPlaces t p (blocks_named places) → IsTrue (has_inode is_regular t inode)
      → IsTrue (list_all (λ place. is_in_file t p inode place.0) places) → IsTrue (differ (λ a b. b.0 == a.0) places)
      → (place : ℕ × Option ℕ) → Contains places place
      → form_at (tables_after (places_relinked inode places t) t) inode place.0 ≡ option_and_then (λ id. option_map form_of_row (block_at t id)) place.1
  pub elsewhere : (t : Tables) (p : Parameters) (inode other number : ℕ) (places : Places) → OwesPlaces t p (blocks_named places) → IsTrue (has_inode is_regular t inode)
      → IsTrue (list_all (λ place. is_in_file t p inode place.0) places) → is_among_places inode places other number ≡ false
      → form_at (tables_after (places_relinked inode places t) t) other number ≡ form_at t other number

-- ---- links_of

pub length-resolved : (digest_of : List ℕ → List ℕ) (t : Tables) (before : List Place) (block object : ℕ) (blocks : List NewBlock)
    → length (resolved digest_of t before block object blocks) ≡ length blocks
length-resolved digest_of t before block object [] = refl
length-resolved digest_of t before block object (b ∷ bs) =
    let x = place_for digest_of t before block object b.stored in
    ap suc (length-resolved digest_of t (before ++ x ∷ []) (next_after x block) (next_after x object) bs)

module _ (f : ℕ → Bool) where
  list_all-links_of : (blocks : List NewBlock) (xs : List Place) → length xs ≡ length blocks → list_all (λ place. f place.0) (links_of blocks xs) ≡ list_all (λ b. f b.blockno) blocks
  list_all-links_of [] xs same = refl
  list_all-links_of (b ∷ bs) [] same = absurd (cc same)
  list_all-links_of (b ∷ bs) (x ∷ xs) same = ap (λ (k : Bool). f b.blockno && k) (list_all-links_of bs xs (cc same))

  list_any-links_of : (blocks : List NewBlock) (xs : List Place) → length xs ≡ length blocks → list_any (λ place. f place.0) (links_of blocks xs) ≡ list_any (λ b. f b.blockno) blocks
  list_any-links_of [] xs same = refl
  list_any-links_of (b ∷ bs) [] same = absurd (cc same)
  list_any-links_of (b ∷ bs) (x ∷ xs) same = ap (λ (k : Bool). f b.blockno || k) (list_any-links_of bs xs (cc same))

differ-links_of : (blocks : List NewBlock) (xs : List Place) → length xs ≡ length blocks
    → differ (λ (a b : ℕ × Option ℕ). b.0 == a.0) (links_of blocks xs) ≡ differ (λ (a b : NewBlock). b.blockno == a.blockno) blocks
differ-links_of [] xs same = refl
differ-links_of (b ∷ bs) [] same = absurd (cc same)
differ-links_of (b ∷ bs) (x ∷ xs) same =
    ap (λ (k : Bool). not k && differ (λ (a c : ℕ × Option ℕ). c.0 == a.0) (links_of bs xs)) (list_any-links_of (λ n. n == b.blockno) bs xs (cc same))
    ∙ ap (λ (k : Bool). not (list_any (λ (c : NewBlock). c.blockno == b.blockno) bs) && k) (differ-links_of bs xs (cc same))

-- ---- all together

module _ (laws : CountLaws) (links : LinkLaws) (digest_of : List ℕ → List ℕ) (t after : Tables) (params : Parameters) (made : t.params ≡ Some params) (blocks : List NewBlock) where
  abbrev pub xs : List Place
  xs = resolved digest_of t [] params.next_block params.next_object blocks

  abbrev pub q : Parameters
  q = with_drawn (count_by is_new xs) params

  abbrev pub last : ℕ
  last = params.next_object + count_by is_new xs

  pub same_length : length xs ≡ length blocks
  same_length = length-resolved digest_of t [] params.next_block params.next_object blocks

  module _ (drawn : after ≡ with_new_objects (count_by is_new xs) t) (batch : List Change) (inode : ℕ) (able : ArePlaceable after batch inode blocks) where
    abbrev pub u0 : Tables
    u0 = tables_after batch after

    made_q : u0.params ≡ Some q
    made_q = able.params ∙ ap (λ (u : Tables). u.params) drawn ∙ params-with_new_objects (count_by is_new xs) t params made

    pub same_params : able.valid.params ≡ q
    same_params = let both : Some able.valid.params ≡ Some q = sym able.valid.is_made ∙ made_q in cc both

    pub same_blocks : u0.blocks ≡ t.blocks
    same_blocks = able.blocks_stay ∙ ap (λ (u : Tables). u.blocks) drawn ∙ blocks-with_new_objects (count_by is_new xs) t

    pub start : AreCounting t u0 q last [] q.next_block params.next_object u0 []
    start = record {
      owes = links.none_owed u0 q able.valid made_q;
      names = links.same u0;
      spots = λ inode blockno. refl;
      old = λ r at. ap (λ (rows : List Block). option_map form_of_row (row_at by_block r.id rows)) same_blocks ∙ ap (option_map form_of_row) at;
      counted = tt;
      free = λ d absent none. ap (λ (rows : List Block). find (λ (r : Block). is_eq (bytes_cmp r.digest.0 d.0)) rows) same_blocks ∙ absent;
      objects =
          λ o low high.
          ap (λ (rows : List Object). row_at by_object o rows) able.objects_stay ∙ ap (λ (u : Tables). object_at u o) drawn
          ∙ drawn_there (count_by is_new xs) t params o made low high;
    }

    module _ (more : List Change) (adds : places_counted q xs u0 ≡ Some more) where
      abbrev pub v : Tables
      v = tables_after more u0

      pub up : (n : ℕ) × (m : ℕ) × AreCounting t u0 q last xs n m v (ids_onto xs [])
      up =
          counting_all laws digest_of t u0 q last (subst (λ (rows : List Block). IsTrue (rises by_block rows)) same_blocks able.valid.ordered.blocks)
          blocks [] q.next_block params.next_object u0 [] more start
          (subst (λ (p : Parameters). IsTrue (list_all (λ b. nat_le (length b.stored) p.block_size) blocks)) same_params able.sizes) (omega arith) adds

      pub owed : OwesPlaces v (with_next_block up.0 q) (blocks_named (links_of blocks xs))
      owed =
          links.order v (with_next_block up.0 q) (ids_onto xs []) (blocks_named (links_of blocks xs))
          (λ id. omega (arith, times-ids_onto id blocks xs [] same_length)) up.2.owes

      pub regular : IsTrue (has_inode is_regular v inode)
      regular = ap (λ (rows : List Inode). has_inode is_regular (record u0 { inodes = rows }) inode) up.2.names.inodes ∙ able.regular

      in_file : (n : ℕ) → is_in_file v (with_next_block up.0 q) inode n ≡ is_in_file u0 able.valid.params inode n
      in_file n =
          ap (λ (rows : List Inode). is_in_file (record u0 { inodes = rows }) q inode n) up.2.names.inodes
          ∙ ap (λ (p : Parameters). is_in_file u0 p inode n) (sym same_params)

      pub within : IsTrue (list_all (λ place. is_in_file v (with_next_block up.0 q) inode place.0) (links_of blocks xs))
      within =
          list_all-links_of (is_in_file v (with_next_block up.0 q) inode) blocks xs same_length
          ∙ list_all_weaker (λ (b : NewBlock). is_in_file u0 able.valid.params inode b.blockno) (λ (b : NewBlock). is_in_file v (with_next_block up.0 q) inode b.blockno)
          (λ b is. in_file b.blockno ∙ is) blocks able.within

      abbrev pub w : Tables
      w = tables_after (places_relinked inode (links_of blocks xs) v) v

      pub placed_raw : ArePlaced u0 w inode blocks
      placed_raw = record {
        valid = links.valid v (with_next_block up.0 q) inode (links_of blocks xs) owed regular within;
        names = laws.joined u0 v w up.2.names (links.names v inode (links_of blocks xs));
        elsewhere =
            λ other number is.
            links.elsewhere v (with_next_block up.0 q) inode other number (links_of blocks xs) owed regular within
            (ap (λ (k : Bool). other == inode && k) (list_any-links_of (λ n. n == number) blocks xs same_length) ∙ is)
            ∙ up.2.spots other number;
      }

      -- what is known of the bytes of blocks
      module _ (kept : KeptLaws) (m : Contents) (have : HaveBytes m u0.blocks) (knows : KnowsBlocks digest_of m blocks) where
        bytes_v : HaveBytes m v.blocks
        bytes_v =
            counted_keeps laws (HaveBytes m) (HasItsBytes m) (kept.known m) (HaveBytes-put m) q xs u0 more adds able.valid.ordered
            (new_have_bytes digest_of m t blocks [] params.next_block params.next_object knows) have

        pub bytes_raw : HaveBytes m w.blocks
        bytes_raw = kept.known m v w owed.ordered placed_raw.valid.ordered (links.rows v inode (links_of blocks xs)) bytes_v

        pub forms_raw : HaveTheirForms digest_of w inode blocks
        forms_raw =
            all_forms digest_of m t v bytes_v w inode blocks [] params.next_block params.next_object
            (λ place there.
            links.forms v (with_next_block up.0 q) inode (links_of blocks xs) owed regular within (differ-links_of blocks xs same_length ∙ able.distinct) place there)
            up.2.counted knows

-- ---- what a call did

-- the counts as a batch of their own
pub record AddsCounts (p : Parameters) (xs : List Place) (u : Tables) (batch counted : List Change) : Type 0 where
  pub more : List Change
  pub adds : places_counted p xs u ≡ Some more
  pub whole : counted ≡ batch ++ more

adds_counts : (p : Parameters) (xs : List Place) (u : Tables) (batch counted : List Change) → AreCounted (places_counted p xs u) batch true counted → AddsCounts p xs u batch counted
adds_counts p xs u batch counted is = by_case (places_counted p xs u) refl is
  where
    by_case : (added : Option (List Change)) → places_counted p xs u ≡ added → AreCounted added batch true counted → AddsCounts p xs u batch counted
    by_case None same fact = let clash : true ≡ false = fact in absurd (cc clash)
    by_case (Some more) same fact = record { more = more; adds = same; whole = fact.1 }

-- what the batch makes of tables, by its parts
pub tables_after-linked : (t : Tables) (batch more counted now : List Change) (inode : ℕ) (named : Places) → counted ≡ batch ++ more
    → now ≡ counted ++ places_relinked inode named (tables_after counted t)
    → tables_after (places_relinked inode named (tables_after more (tables_after batch t))) (tables_after more (tables_after batch t)) ≡ tables_after now t
tables_after-linked t batch more counted now inode named whole linked =
    let here : tables_after more (tables_after batch t) ≡ tables_after counted t =
    tables_after-tables_after batch more t ∙ ap (λ (cs : List Change). tables_after cs t) (sym whole) in
    ap (λ (v : Tables). tables_after (places_relinked inode named v) v) here
    ∙ tables_after-tables_after counted (places_relinked inode named (tables_after counted t)) t
    ∙ ap (λ (cs : List Change). tables_after cs t) (sym linked)

-- what holds where all parts are known holds of what a call did
module _ (digest_of : List ℕ → List ℕ) (inode : ℕ) (blocks : List NewBlock) (before after : Told) (batch now : List Change) (did : WerePlaced digest_of inode blocks before after batch now) where
  abbrev found : Parameters → List Place
  found params = resolved digest_of before.tables [] params.next_block params.next_object blocks

  abbrev linked_up : Parameters → List Change → Tables
  linked_up params more =
      tables_after (places_relinked inode (links_of blocks (found params)) (tables_after more (tables_after batch after.tables))) (tables_after more (tables_after batch after.tables))

  pub by_parts : (P : List Place → Tables → Type 0)
      → ((params : Parameters) (made : before.tables.params ≡ Some params) (drawn : after.tables ≡ with_new_objects (count_by is_new (found params)) before.tables) (more : List Change)
      → params.next_object + count_by is_new (found params) ≤ 2 ^ 62
      → places_counted (with_drawn (count_by is_new (found params)) params) (found params) (tables_after batch after.tables) ≡ Some more → P (found params) (linked_up params more))
      → P did.xs (tables_after now after.tables)
  by_parts P follows =
      let ready = did.ready in
      let p = with_drawn (count_by is_new did.xs) ready.params in
      let u = tables_after batch after.tables in
      let l = found ready.params in
      let sum = adds_counts did.params did.xs u batch did.counted did.counts in
      let adds_xs : places_counted p did.xs u ≡ Some sum.more = subst (λ (q : Parameters). places_counted q did.xs u ≡ Some sum.more) ready.now sum.adds in
      let adds : places_counted (with_drawn (count_by is_new l) ready.params) l u ≡ Some sum.more =
      subst (λ (k : List Place). places_counted (with_drawn (count_by is_new k) ready.params) k u ≡ Some sum.more) ready.found adds_xs in
      let drawn : after.tables ≡ with_new_objects (count_by is_new l) before.tables =
      subst (λ (k : List Place). after.tables ≡ with_new_objects (count_by is_new k) before.tables) ready.found ready.drawn in
      let room : ready.params.next_object + count_by is_new l ≤ 2 ^ 62 = subst (λ (k : List Place). ready.params.next_object + count_by is_new k ≤ 2 ^ 62) ready.found ready.room in
      let linked : now ≡ did.counted ++ places_relinked inode (links_of blocks l) (tables_after did.counted after.tables) =
      subst (λ (k : List Place). now ≡ did.counted ++ places_relinked inode (links_of blocks k) (tables_after did.counted after.tables)) ready.found did.linked in
      subst (λ (k : List Place). P k (tables_after now after.tables)) (sym ready.found)
      (subst (P l) (tables_after-linked after.tables batch sum.more did.counted now inode (links_of blocks l) sum.whole linked)
      (follows ready.params ready.made drawn sum.more room adds))

  module _ (laws : CountLaws) (links : LinkLaws) (able : ArePlaceable after.tables batch inode blocks) where
    pub placed : ArePlaced (tables_after batch after.tables) (tables_after now after.tables) inode blocks
    placed =
        by_parts (λ xs w. ArePlaced (tables_after batch after.tables) w inode blocks)
        (λ params made drawn more room adds. placed_raw laws links digest_of before.tables after.tables params made blocks drawn batch inode able more adds)

    module _ (kept : KeptLaws) (m : Contents) (have : HaveBytes m after.tables.blocks) (knows : KnowsBlocks digest_of m blocks) where
      have_u : HaveBytes m (tables_after batch after.tables).blocks
      have_u = subst (HaveBytes m) (sym able.blocks_stay) have

      pub known_forms : HaveTheirForms digest_of (tables_after now after.tables) inode blocks
      known_forms =
          by_parts (λ xs w. HaveTheirForms digest_of w inode blocks)
          (λ params made drawn more room adds. forms_raw laws links digest_of before.tables after.tables params made blocks drawn batch inode able more adds kept m have_u knows)

      pub known_bytes : HaveBytes m (tables_after now after.tables).blocks
      known_bytes =
          by_parts (λ xs w. HaveBytes m w.blocks)
          (λ params made drawn more room adds. bytes_raw laws links digest_of before.tables after.tables params made blocks drawn batch inode able more adds kept m have_u knows)

-- what is told of a call that did its work
pub were_placed : (digest_of : List ℕ → List ℕ) (inode : ℕ) (blocks : List NewBlock) (params : Parameters) (xs : List Place) (batch counted now : List Change) (done : Bool)
    (Q : Told → Told → Type 0) → ((s s2 : Told) (did : WerePlaced digest_of inode blocks s s2 batch now) → did.xs ≡ xs → Q s s2)
    → (first drawn linked : Option Told) → done ≡ true → linked ≡ drawn → Becomes (AreReady digest_of blocks params xs) first drawn
    → IfTold drawn (λ t. AreCounted (places_counted params xs (tables_after batch t)) batch done counted)
    → IfTold linked (λ t. now ≡ counted ++ places_relinked inode (links_of blocks xs) (tables_after counted t)) → Becomes Q first linked
were_placed digest_of inode blocks params xs batch counted now done Q follows first drawn linked is same ready counts links =
    subst (λ (o : Option Told). Becomes Q first o) (sym same)
    (by_told first drawn ready counts (subst (λ (o : Option Told). IfTold o (λ t. now ≡ counted ++ places_relinked inode (links_of blocks xs) (tables_after counted t))) same links))
  where
    by_told : (a b : Option Told) → Becomes (AreReady digest_of blocks params xs) a b → IfTold b (λ t. AreCounted (places_counted params xs (tables_after batch t)) batch done counted)
        → IfTold b (λ t. now ≡ counted ++ places_relinked inode (links_of blocks xs) (tables_after counted t)) → Becomes Q a b
    by_told None b none c l = none
    by_told (Some s) None none c l = none
    by_told (Some s) (Some s2) found c l =
        follows s s2 (record {
          params = params;
          xs = xs;
          counted = counted;
          ready = found;
          counts = subst (λ (k : Bool). AreCounted (places_counted params xs (tables_after batch s2.tables)) batch k counted) is c;
          linked = l;
        }) refl

-- a fact of what is told after a call, by what it makes of what was told before
pub IfTold-becomes : (R : Told → Told → Type 0) (P : Tables → Type 0) → ((a b : Told) → R a b → P b.tables) → (before after : Option Told) → Becomes R before after → IfTold after P
IfTold-becomes R P follows before None fact = tt
IfTold-becomes R P follows None (Some b) fact = absurd (cc fact)
IfTold-becomes R P follows (Some a) (Some b) fact = follows a b fact
