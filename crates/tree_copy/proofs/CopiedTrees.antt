-- The whole batch of a copy: the names, and then the places of its files.
use Rattle.std.proofs.Common.{◌≡◌, ◌<◌, ℕ, ◌+◌, List, [], ◌∷◌, ◌++◌, length, Bool, true, false, cond, Option, None, Some, refl, sym, ap, ◌∙◌, subst, arith, eqb-true, ltb-true}
use Rattle.std.proofs.lemmas.Bool.{and_from, and_parts}
use Rattle.std.specs.List.{list_all, list_any}
use Rattle.std.specs.Prelude.{IsTrue, not, ◌&&◌, ◌||◌, ◌==◌, ◌*◌, find, is_some, nat_le, nat_lt, option_and_then, option_map, unwrap_or}
use Rattle.op_frames.specs.declared.operation.Op.TheVariants as ops
use Rattle.s3_base.specs.declared.node_kind.Kind.{Kind}
use Rattle.s3_base.specs.declared.node_kind.Kind.TheVariants as kinds
use Rattle.plain_tree.specs.Below.{at_and_below, is_among}
use Rattle.plain_tree.specs.Checks.{first_failure}
use Rattle.plain_tree.specs.Operations.{checks, effect}
use Rattle.plain_tree.specs.Subtrees.{copy_number}
use Rattle.plain_tree.specs.Tree as tree
use Rattle.plain_tree.specs.Tree.{Node, Tree, node_at}
use Rattle.plain_tree.specs.WellFormed.{IsWellFormed}
use Rattle.s3_rows.specs.declared.change.Change.{Change}
use Rattle.s3_rows.specs.Batches.{tables_after}
use Rattle.s3_rows.specs.Keyed.{has_key, row_at}
use Rattle.s3_rows.specs.Rows.{Block, Inode, InodeBlock, Parameters}
use Rattle.s3_rows.specs.Selections.{block_at, inode_at, inode_block_at}
use Rattle.s3_rows.specs.Tables.{Tables, by_block, by_spot}
use Rattle.s3_rows.specs.Validity.{HasUniqueNames, IsValid, differ, finds_of_inode_block, has_inode, is_in_file, is_regular}
use Rattle.row_lemmas.proofs.Tests.{eqb_comm, find_none, list_all-filter, list_all-filter_same, list_all_weaker, list_all_weaker_both}
use Rattle.row_lemmas.proofs.Keyed.Rises.{rises-filter}
use Rattle.row_lemmas.proofs.Tables.{tables_after-tables_after}
use Rattle.tree_laws.proofs.Node.Kind.{one_some}
use Rattle.tree_rows.specs.Shapes.{Regular, NodeShape, TreeShape, node_of_row, shape_of_content, shape_of_node, Represents}
use Rattle.tree_rows.specs.Spots.{form_at, form_of_row}
use Rattle.tree_rows.proofs.Shaped.{found_alike}
use Rattle.tree_rows.proofs.Whole.{content_of_kind}
use Rattle.ref_counts.specs.Links.{is_place_from, places_from}
use Rattle.ref_counts.specs.Plans.{next_inode_of, settings}
use Rattle.row_steps.proofs.Owed.Inodes.{below_from_there}
use Rattle.block_steps.proofs.DebtsTables.{IsValid-OwesPlaces, OwesPlaces-IsValid}
use Rattle.tree_copy.specs.CopiedPlaces.{files_copied, files_fit, moved_place}
use Rattle.tree_copy.specs.CopiedRows.{AreVisitsOf, Visit, all_seen, names_copied, names_fit, seen_after}
use Rattle.tree_copy.specs.CopySteps.{AreNamesOf, IsCopyStep, inodes_seen, tree_copied, uncounted}
use Rattle.tree_copy.specs.PartialCopies.{HasCopy, IsContentOf, begun}
use Rattle.tree_copy.proofs.CopiedNames.{takes_copy, AreNamesOf-names, tree_is, way}
use Rattle.tree_copy.proofs.CopiedPlaces.{FileRows, HasFiles, IsPlacing, NoneFrom, file_rows, files_alike, files_placed, place_found, row_in, spot_key}
use Rattle.tree_copy.proofs.Visits.{IsOnTheWay, node_of_found, row_of_node}

-- ---- what is seen is seen once

none_more : (x y : ℕ) (zs : List ℕ) → list_any (λ b. b == x) zs ≡ false → (y == x) ≡ false → list_any (λ b. b == x) (zs ++ y ∷ []) ≡ false
none_more x y [] none other = ap (λ b. b || false) other
none_more x y (z ∷ zs) none other = by_case (λ rest. none_more x y zs rest other) (z == x) none
  where
    by_case : (list_any (λ c. c == x) zs ≡ false → list_any (λ c. c == x) (zs ++ y ∷ []) ≡ false) → (b : Bool) → (b || list_any (λ c. c == x) zs) ≡ false
        → (b || list_any (λ c. c == x) (zs ++ y ∷ [])) ≡ false
    by_case rest true is = is
    by_case rest false is = rest is

false_from : (c : Bool) → IsTrue (not c) → c ≡ false
false_from true is = absurd (cc is)
false_from false is = refl

differ-last : (xs : List ℕ) (y : ℕ) → IsTrue (differ (λ a b. b == a) xs) → is_among xs y ≡ false → IsTrue (differ (λ a b. b == a) (xs ++ y ∷ []))
differ-last [] y apart new = refl
differ-last (x ∷ xs) y apart new =
    let parts = and_parts (not (list_any (λ b. b == x) xs)) (differ (λ a b. b == a) xs) apart in
    and_from (not (list_any (λ b. b == x) (xs ++ y ∷ []))) (differ (λ a b. b == a) (xs ++ y ∷ [])) (first (x == y) refl parts.0 new)
    (differ-last xs y parts.1 (rest (x == y) new))
  where
    rest : (b : Bool) → (b || is_among xs y) ≡ false → is_among xs y ≡ false
    rest true is = absurd (cc is)
    rest false is = is

    first : (b : Bool) → (x == y) ≡ b → IsTrue (not (list_any (λ c. c == x) xs)) → (b || is_among xs y) ≡ false → IsTrue (not (list_any (λ c. c == x) (xs ++ y ∷ [])))
    first true is none new = absurd (cc new)
    first false is none new = ap not (none_more x y xs (false_from (list_any (λ c. c == x) xs) none) (eqb_comm y x ∙ is))

pub differ-all_seen : (visits : List Visit) (seen : List ℕ) → IsTrue (differ (λ a b. b == a) seen) → IsTrue (differ (λ a b. b == a) (all_seen seen visits))
differ-all_seen [] seen apart = apart
differ-all_seen (v ∷ visits) seen apart = differ-all_seen visits (seen_after seen v) (by_case (is_among seen v.child.id) refl)
  where
    by_case : (b : Bool) → is_among seen v.child.id ≡ b → IsTrue (differ (λ a b. b == a) (cond b seen (seen ++ v.child.id ∷ [])))
    by_case true is = apart
    by_case false is = differ-last seen v.child.id apart is

-- ---- forms

form_uncounted : (found : Option Block) → option_map form_of_row found ≡ option_map form_of_row (option_map uncounted found)
form_uncounted None = refl
form_uncounted (Some r) = refl

forms_alike : (blocks others : List Block) → ((id : ℕ) → option_map uncounted (row_at by_block id blocks) ≡ option_map uncounted (row_at by_block id others)) → (found : Option InodeBlock)
    → option_and_then (λ (r : InodeBlock). option_map form_of_row (row_at by_block r.block blocks)) found
    ≡ option_and_then (λ (r : InodeBlock). option_map form_of_row (row_at by_block r.block others)) found
forms_alike blocks others same None = refl
forms_alike blocks others same (Some r) =
    form_uncounted (row_at by_block r.block blocks) ∙ ap (option_map form_of_row) (same r.block) ∙ sym (form_uncounted (row_at by_block r.block others))

form_moved : (blocks : List Block) (id : ℕ) (found : Option InodeBlock)
    → option_and_then (λ (r : InodeBlock). option_map form_of_row (row_at by_block r.block blocks)) (option_map (moved_place id) found)
    ≡ option_and_then (λ (r : InodeBlock). option_map form_of_row (row_at by_block r.block blocks)) found
form_moved blocks id None = refl
form_moved blocks id (Some r) = refl

row_from : (r : Block) (found : Option Block) → Some (uncounted r) ≡ option_map uncounted found
    → (old : Block) × (found ≡ Some old) × (r.digest ≡ old.digest) × (r.size ≡ old.size) × (r.object ≡ old.object)
row_from r None same = absurd (cc same)
row_from r (Some old) same =
    let one : uncounted r ≡ uncounted old = cc same in
    (old, refl, ap (λ (x : Block). x.digest) one, ap (λ (x : Block). x.size) one, ap (λ (x : Block). x.object) one)

-- ---- a regular file

file_of_shape : (t : Tables) (r : Inode) (kind : Kind) (size : ℕ) → Regular size ≡ content_of_kind t r kind → (kind ≡ kinds.Regular) × (r.size ≡ size)
file_of_shape t r kinds.Directory size same = absurd (cc same)
file_of_shape t r kinds.Regular size same =
    let one : size ≡ r.size = cc same in
    (refl, sym one)
file_of_shape t r kinds.Link size same = absurd (cc same)

regular_content : (content : tree.Content) (t : Tables) (r : Inode) (kind : Kind) → kind ≡ kinds.Regular → shape_of_content content ≡ content_of_kind t r kind
    → (bytes : List ℕ) × (content ≡ tree.Regular bytes) × (length bytes ≡ r.size)
regular_content (tree.Regular bytes) t r kinds.Regular is same =
    let one : length bytes ≡ r.size = cc same in
    (bytes, refl, one)
regular_content (tree.Directory entries) t r kinds.Regular is same = absurd (cc same)
regular_content (tree.Link target) t r kinds.Regular is same = absurd (cc same)
regular_content content t r kinds.Directory is same = absurd (cc is)
regular_content content t r kinds.Link is same = absurd (cc is)

regular_row : (found : Option Inode) → IsTrue (elim found [ Some r ↦ is_regular r.kind | None ↦ false ]) → (r : Inode) × (found ≡ Some r) × (r.kind ≡ kinds.Regular)
regular_row None is = absurd (cc is)
regular_row (Some r) is = (r, refl, by_kind r.kind is)
  where
    by_kind : (kind : Kind) → IsTrue (is_regular kind) → kind ≡ kinds.Regular
    by_kind kinds.Directory own = absurd (cc own)
    by_kind kinds.Regular own = refl
    by_kind kinds.Link own = absurd (cc own)

-- ---- the batch

module _ (told : Tables) (whole : Tree) (v : IsValid told) (unique : HasUniqueNames told) (same : Represents told whole) (well : IsWellFormed whole)
    (pass source parent now : ℕ) (name : List ℕ) (passes : first_failure (checks whole pass (ops.CopyTree source parent name)) ≡ None)
    (directory top : Inode) (found : inode_at told parent ≡ Some directory) (top_found : inode_at told source ≡ Some top)
    (visits : List Visit) (are : AreVisitsOf told (at_and_below whole source) top.id visits)
    (names_fits : IsTrue (names_fit told whole.next_inode now top directory name visits)) where
  abbrev u : Tables
  u = tables_after (names_copied told whole.next_inode now top directory name visits) told

  abbrev goal : Tree
  goal = effect whole pass (ops.CopyTree source parent name) now

  abbrev order : List ℕ
  order = at_and_below whole source

  abbrev number : ℕ → ℕ
  number x = copy_number whole.next_inode order x

  names : AreNamesOf told u goal
  names = AreNamesOf-names told whole v unique same well source parent now name (takes_copy whole pass source parent name passes) directory top found top_found visits are names_fits pass passes

  walk : IsOnTheWay told whole parent now name order visits u
  walk = way told whole v unique same well source parent now name (takes_copy whole pass source parent name passes) directory top found top_found visits are names_fits

  abbrev p : Parameters
  p = names.valid.params

  block_size : names.valid.params.block_size ≡ v.params.block_size
  block_size =
      let both : Some (settings names.valid.params) ≡ Some (settings v.params) =
      sym (ap (option_map settings) names.valid.is_made) ∙ names.params ∙ ap (option_map settings) v.is_made in
      let one : settings names.valid.params ≡ settings v.params = cc both in
      ap (λ (q : Parameters). q.block_size) one

  next_is : v.params.next_inode ≡ whole.next_inode
  next_is =
      sym (ap (λ (x : Option Parameters). unwrap_or (option_map (λ y. y.next_inode) x) 0) v.is_made) ∙ ap (λ (x : TreeShape). x.next_inode) same

  -- a row that was told is below the next number
  below : (test : Kind → Bool) (x : ℕ) → IsTrue (has_inode test told x) → x < whole.next_inode
  below test x there = subst (λ n. x < n) next_is (ltb-true x v.params.next_inode (below_from_there told v.params.next_inode v.free.inodes x (λ kind size. test kind) there))

  -- the copy of a file is one of its length
  same_file : (x : ℕ) (r : Inode) → is_among order x ≡ true → inode_at told x ≡ Some r → r.kind ≡ kinds.Regular
      → (row : Inode) × (inode_at u (number x) ≡ Some row) × (row.kind ≡ kinds.Regular) × (row.size ≡ r.size)
  same_file x r among there kind =
      let node = node_of_found told whole same x r there in
      let bytes = regular_content node.0.content told r r.kind kind (ap (λ (s : NodeShape). s.content) node.2) in
      let copy : HasCopy whole walk.tree now x (number x) = walk.partial.copies x among in
      let one : copy.node ≡ node.0 = one_some (node_at whole x) copy.node node.0 copy.was node.1 in
      let content : copy.content ≡ tree.Regular bytes.0 =
      subst (λ (c : tree.Content). IsContentOf c copy.content) (ap (λ (n : Node). n.content) one ∙ bytes.1) copy.content_is in
      let row = row_of_node u walk.tree walk.stands.same (number x) (begun now copy.content copy.node) copy.is in
      let both : Some (shape_of_node (begun now copy.content copy.node)) ≡ Some (node_of_row u row.0) =
      ap (option_map shape_of_node) (sym copy.is) ∙ found_alike u walk.tree walk.stands.same (number x) ∙ ap (option_map (node_of_row u)) row.1 in
      let shape : shape_of_node (begun now copy.content copy.node) ≡ node_of_row u row.0 = cc both in
      let file = file_of_shape u row.0 row.0.kind (length bytes.0) (sym (ap shape_of_content content) ∙ ap (λ (s : NodeShape). s.content) shape) in
      (row.0, row.1, file.0, file.1 ∙ bytes.2)

  abbrev good : InodeBlock → Bool
  good r = finds_of_inode_block told r && is_in_file told v.params r.inode r.blockno

  all_good : IsTrue (list_all good told.inode_blocks)
  all_good =
      list_all_weaker_both (finds_of_inode_block told) (λ r. is_in_file told v.params r.inode r.blockno) (λ r. finds_of_inode_block told r && is_in_file told v.params r.inode r.blockno)
      (λ r a b. and_from (finds_of_inode_block told r) (is_in_file told v.params r.inode r.blockno) a b) told.inode_blocks v.rows.inode_blocks v.sizes.inode_blocks

  place_fits : (x : ℕ) → is_among order x ≡ true → (r : InodeBlock) → r.inode ≡ x → IsTrue (good r)
      → IsTrue (has_inode is_regular u (number x)) × IsTrue (is_in_file u names.valid.params (number x) r.blockno)
  place_fits x among r own is =
      let parts = and_parts (finds_of_inode_block told r) (is_in_file told v.params r.inode r.blockno) is in
      let regular : IsTrue (has_inode is_regular told x) = ap (has_inode is_regular told) (sym own) ∙ (and_parts (has_inode is_regular told r.inode) (is_some (block_at told r.block)) parts.0).0 in
      let row = regular_row (inode_at told x) regular in
      let file = same_file x row.0 among row.1 row.2 in
      let within : IsTrue (nat_lt (r.blockno * v.params.block_size) row.0.size) =
      sym (ap (λ (y : Option Inode). elim y [ Some z ↦ nat_lt (r.blockno * v.params.block_size) z.size | None ↦ false ]) (ap (inode_at told) own ∙ row.1)) ∙ parts.1 in (
        ap (λ (y : Option Inode). elim y [ Some z ↦ is_regular z.kind | None ↦ false ]) file.1 ∙ ap is_regular file.2,
        ap (λ (y : Option Inode). elim y [ Some z ↦ nat_lt (r.blockno * names.valid.params.block_size) z.size | None ↦ false ]) file.1
            ∙ (λ i. nat_lt (r.blockno * block_size i) (file.3 i)) ∙ within,
      )

  rows_of : (x : ℕ) → is_among order x ≡ true → FileRows u names.valid.params x (number x) 0 (places_from told x 0)
  rows_of x among =
      file_rows u names.valid.params x (number x) good (place_fits x among) (places_from told x 0) 0
      (rises-filter by_spot (is_place_from x 0) told.inode_blocks v.ordered.inode_blocks)
      (list_all-filter_same (is_place_from x 0) told.inode_blocks)
      (list_all-filter (is_place_from x 0) good told.inode_blocks all_good)
      (list_all_weaker (is_place_from x 0) (λ (r : InodeBlock). nat_le 0 r.blockno) (λ r own. (and_parts (r.inode == x) (nat_le 0 r.blockno) own).1) (places_from told x 0)
      (list_all-filter_same (is_place_from x 0) told.inode_blocks))

  -- copies have no places yet
  none_yet : (x : ℕ) → NoneFrom u.inode_blocks (number x) 0
  none_yet x n least =
      ap (row_at by_spot (number x, n)) names.inode_blocks
      ∙ find_none (has_key by_spot (number x, n)) (finds_of_inode_block told) other told.inode_blocks v.rows.inode_blocks
    where
      other : (r : InodeBlock) → IsTrue (finds_of_inode_block told r) → has_key by_spot (number x, n) r ≡ false
      other r finds = spot_key (number x) n r ∙ by_case (r.inode == number x) refl
        where
          less : r.inode < whole.next_inode
          less = below is_regular r.inode (and_parts (has_inode is_regular told r.inode) (is_some (block_at told r.block)) finds).0

          by_case : (b : Bool) → (r.inode == number x) ≡ b → (b && r.blockno == n) ≡ false
          by_case true is = absurd (omega (arith, eqb-true r.inode (number x) is, less))
          by_case false is = refl

  abbrev seen : List ℕ
  seen = inodes_seen top visits

  -- ---- with the places

  module _ (files_fits : IsTrue (files_fit told whole.next_inode (inodes_seen top visits) (inodes_seen top visits) told)) where
    abbrev w : Tables
    w = tables_after (tree_copied told whole.next_inode now top directory name visits) told

    start : IsPlacing told u names.valid.params u
    start = record {
      places = u.inode_blocks;
      blocks = u.blocks;
      is = refl;
      owes = OwesPlaces-IsValid u names.valid.params names.valid names.valid.is_made;
      kept = λ id. ap (λ (rows : List Block). option_map uncounted (row_at by_block id rows)) names.blocks;
    }

    alike : (files_copied told whole.next_inode order order u ≡ files_copied told whole.next_inode order order told)
        × (files_fit told whole.next_inode order order u ≡ files_fit told whole.next_inode order order told)
    alike = files_alike told whole.next_inode order order told u names.blocks

    fits_u : IsTrue (files_fit told whole.next_inode order order u)
    fits_u = alike.1 ∙ subst (λ (xs : List ℕ). IsTrue (files_fit told whole.next_inode xs xs told)) are.order_is files_fits

    apart : IsTrue (differ (λ a b. b == a) order)
    apart = subst (λ (xs : List ℕ). IsTrue (differ (λ a b. b == a) xs)) are.order_is (differ-all_seen visits (top.id ∷ []) refl)

    placed : HasFiles told u names.valid.params whole.next_inode order order u.inode_blocks (tables_after (files_copied told whole.next_inode order order u) u)
    placed = files_placed told u names.valid.params whole.next_inode order order u (record {
      places = u.inode_blocks;
      blocks = u.blocks;
      is = refl;
      owes = OwesPlaces-IsValid u names.valid.params names.valid names.valid.is_made;
      kept = λ id. ap (λ (rows : List Block). option_map uncounted (row_at by_block id rows)) names.blocks;
    }) (λ x among. among) apart rows_of (λ x among. none_yet x) fits_u

    tables : tables_after (files_copied told whole.next_inode order order u) u ≡ w
    tables =
        ap (λ (cs : List Change). tables_after cs u) alike.0
        ∙ ap (λ (xs : List ℕ). tables_after (files_copied told whole.next_inode xs xs told) u) (sym are.order_is)
        ∙ tables_after-tables_after (names_copied told whole.next_inode now top directory name visits)
        (files_copied told whole.next_inode (inodes_seen top visits) (inodes_seen top visits) told) told

    abbrev end : Tables
    end = record u { inode_blocks = placed.placing.places; blocks = placed.placing.blocks }

    end_is : end ≡ w
    end_is = sym placed.placing.is ∙ tables

    forms_end : (inode blockno : ℕ) (row : Option InodeBlock) → row_at by_spot (inode, blockno) placed.placing.places ≡ row
        → form_at end inode blockno ≡ option_and_then (λ (r : InodeBlock). option_map form_of_row (block_at told r.block)) row
    forms_end inode blockno row is =
        ap (option_and_then (λ (r : InodeBlock). option_map form_of_row (row_at by_block r.block placed.placing.blocks))) is
        ∙ forms_alike placed.placing.blocks told.blocks placed.placing.kept row

    any_row : (x : ℕ) → (row : Option Inode) → inode_at told x ≡ row → IsTrue (is_some row) → IsTrue (has_inode (λ kind. true) told x)
    any_row x None is some = absurd (cc some)
    any_row x (Some r) is some = ap (λ (y : Option Inode). elim y [ Some z ↦ true | None ↦ false ]) is

    step : IsCopyStep told end whole source goal
    unfolding walk
    step = record {
      valid = IsValid-OwesPlaces end names.valid.params placed.placing.owes;
      represents = names.represents;
      unique = names.unique;
      params = names.params;
      next_inode =
          let after_is : next_inode_of u ≡ goal.next_inode = ap (λ (x : TreeShape). x.next_inode) names.represents in
          let told_is : next_inode_of told ≡ whole.next_inode = ap (λ (x : TreeShape). x.next_inode) same in
          let tree_next : goal.next_inode ≡ whole.next_inode + length order =
          ap (λ (t : Tree). t.next_inode) (sym (tree_is told whole v unique same well source parent now name (takes_copy whole pass source parent name passes) directory top found top_found visits are names_fits pass passes))
          ∙ walk.partial.next_inode in
          after_is ∙ tree_next ∙ ap (λ n. n + length order) (sym told_is);
      next_name = names.next_name;
      objects = names.objects;
      slots = names.slots;
      blocks = placed.placing.kept;
      rows = λ id r there. row_from r (block_at told id) (ap (option_map uncounted) (sym there) ∙ placed.placing.kept id);
      forms = λ inode blockno some.
          let less : inode < whole.next_inode = below (λ kind. true) inode (any_row inode (inode_at told inode) refl some) in
          forms_end inode blockno (inode_block_at told inode blockno)
          (placed.others inode blockno (λ x among here. omega (arith, here, less)) ∙ ap (row_at by_spot (inode, blockno)) names.inode_blocks);
      copied = λ inode blockno among.
          forms_end (number inode) blockno (row_in (number inode) (places_from told inode 0) blockno) (placed.own inode blockno among)
          ∙ form_moved told.blocks (number inode) (find (λ (r : InodeBlock). r.blockno == blockno) (places_from told inode 0))
          ∙ ap (option_and_then (λ (r : InodeBlock). option_map form_of_row (block_at told r.block))) (place_found inode blockno told.inode_blocks);
    }

    pub IsCopyStep-copied : IsCopyStep told (tables_after (tree_copied told whole.next_inode now top directory name visits) told) whole source
        (effect whole pass (ops.CopyTree source parent name) now)
    IsCopyStep-copied = subst (λ (x : Tables). IsCopyStep told x whole source goal) end_is step
