-- Tables in which objects were drawn.
use Rattle.std.proofs.Common.{◌≡◌, ℕ, zero, suc, ◌+◌, length, Bool, true, false, cond, Option, None, Some, refl, sym, ap, ◌∙◌, subst, arith, eqb-true, ltb-true}
use Rattle.std.specs.Prelude.{IsTrue, not, ◌==◌, ◌||◌, is_some, nat_lt, option_and_then, option_map, unwrap_or}
use Rattle.std.specs.List.{list_all}
use Rattle.std.specs.Ordering.{is_eq}
use Rattle.std.proofs.lemmas.Bool.Decides.{nat_tests}
use Rattle.std.proofs.lemmas.Cmp.{nat_cmp_total}
use Rattle.plain_tree.specs.Tree.{Tree}
use Rattle.s3_rows.specs.declared.change.Change.TheVariants as changes
use Rattle.s3_rows.specs.Rows.{Block, Object, Parameters}
use Rattle.s3_rows.specs.Keyed.{put}
use Rattle.s3_rows.specs.Tables.{Tables, by_object}
use Rattle.s3_rows.specs.Batches.{after_change}
use Rattle.s3_rows.specs.Selections.{object_at}
use Rattle.s3_rows.specs.Validity.{IsValid, HasUniqueNames, counts_object, has_size_of_object, is_below_root, is_directory, is_number}
use Rattle.row_lemmas.proofs.Sums.{count_by_none}
use Rattle.row_lemmas.proofs.Tables.{IsOrdered-after_change, leads_to_root_same}
use Rattle.row_lemmas.proofs.Tests.{is_eq-nat_cmp, list_all_weaker}
use Rattle.row_lemmas.proofs.Keyed.Put.{list_all-put, row_at-put}
use Rattle.row_lemmas.proofs.Keyed.RowAt.{row_at_key, row_at_passes}
use Rattle.tree_rows.specs.Shapes.{Represents, shape_of_tables}
use Rattle.tree_rows.specs.Spots.{form_at}
use Rattle.core_model.specs.Safe.{new_object, with_new_object, with_new_objects}

-- ---- one object

module _ (t : Tables) (v : IsValid t) where
  abbrev drawn : Tables
  drawn = record t { params = Some (record v.params { next_object = v.params.next_object + 1 }); objects = put by_object (new_object v.params.next_object) t.objects }

  -- no object has the next number
  unused : object_at t v.params.next_object ≡ None
  unused = by_case (object_at t v.params.next_object) refl
    where
      by_case : (found : Option Object) → object_at t v.params.next_object ≡ found → found ≡ None
      by_case None there = refl
      by_case (Some o) there =
          let low : IsTrue (nat_lt o.id v.params.next_object) = row_at_passes by_object (λ (r : Object). nat_lt r.id v.params.next_object) v.params.next_object t.objects o v.free.objects there in
          let own : v.params.next_object ≡ o.id = eqb-true v.params.next_object o.id (sym (is_eq-nat_cmp v.params.next_object o.id) ∙ ap is_eq (row_at_key by_object v.params.next_object t.objects o there)) in
          absurd (omega (arith, ltb-true o.id v.params.next_object low, own))

  -- an object that is there is another one, and is found as before
  other : (x : ℕ) → IsTrue (is_some (object_at t x)) → (x == v.params.next_object) ≡ false
  other x there = by_test (x == v.params.next_object) refl
    where
      by_test : (b : Bool) → (x == v.params.next_object) ≡ b → b ≡ false
      by_test true same =
          let none : object_at t x ≡ None = ap (object_at t) (eqb-true x v.params.next_object same) ∙ unused in
          let clash : true ≡ false = sym there ∙ ap is_some none in
          absurd (cc clash)
      by_test false same = refl

  found : (x : ℕ) → IsTrue (is_some (object_at t x)) → object_at drawn x ≡ object_at t x
  found x there =
      row_at-put by_object nat_cmp_total x (new_object v.params.next_object) t.objects
      ∙ ap (λ b. cond b (Some (new_object v.params.next_object)) (object_at t x)) (is_eq-nat_cmp x v.params.next_object ∙ other x there)

  -- no block has it
  no_block : IsTrue (list_all (λ (b : Block). not (b.object == v.params.next_object)) t.blocks)
  no_block = list_all_weaker (λ (b : Block). is_some (object_at t b.object)) (λ (b : Block). not (b.object == v.params.next_object)) (λ b there. ap not (other b.object there)) t.blocks v.rows.objects

  sized : (b : Block) → IsTrue (has_size_of_object t b) → IsTrue (has_size_of_object drawn b)
  sized b size = by_case (object_at t b.object) refl size
    where
      by_case : (o : Option Object) → object_at t b.object ≡ o → IsTrue (is_number b.size (option_and_then (λ (x : Object). x.size) o)) → IsTrue (has_size_of_object drawn b)
      by_case None there is = absurd (cc is)
      by_case (Some o) there is = ap (λ (x : Option Object). is_number b.size (option_and_then (λ (y : Object). y.size) x)) (found b.object (ap is_some there) ∙ there) ∙ is

  pub drawn_valid : IsValid drawn
  drawn_valid = record {
    params = record v.params { next_object = v.params.next_object + 1 };
    is_made = refl;
    ordered = IsOrdered-after_change (changes.SetParams (record v.params { next_object = v.params.next_object + 1 })) (after_change (changes.PutObject (new_object v.params.next_object)) t)
        (IsOrdered-after_change (changes.PutObject (new_object v.params.next_object)) t v.ordered);
    counts = record {
      inodes = v.counts.inodes;
      names = v.counts.names;
      blocks = v.counts.blocks;
      objects = list_all-put by_object (counts_object t) (new_object v.params.next_object) t.objects
          (ap (λ n. 0 == n) (count_by_none (λ (b : Block). b.object == v.params.next_object) t.blocks no_block)) v.counts.objects;
    };
    rows = record {
      entries = v.rows.entries;
      inode_blocks = v.rows.inode_blocks;
      objects = list_all_weaker (λ (b : Block). is_some (object_at t b.object)) (λ (b : Block). is_some (object_at drawn b.object)) (λ b there. ap is_some (found b.object there) ∙ there) t.blocks v.rows.objects;
      targets = v.rows.targets;
      links = v.rows.links;
      attrs = v.rows.attrs;
      slots = v.rows.slots;
    };
    tree = record {
      is_rooted = v.tree.is_rooted;
      root_is_unnamed = v.tree.root_is_unnamed;
      named_once = v.tree.named_once;
      below_root = list_all_weaker (is_below_root t) (is_below_root drawn) (λ r below. ap (λ b. not (is_directory r.kind) || b) (leads_to_root_same t drawn refl (length t.inodes) r.id) ∙ below) t.inodes v.tree.below_root;
      legal = v.tree.legal;
      unlike = v.tree.unlike;
      keeps_lost_and_found = v.tree.keeps_lost_and_found;
    };
    orphans = v.orphans;
    blocks = record {
      digests = v.blocks.digests;
      objects = v.blocks.objects;
      sizes = list_all_weaker (has_size_of_object t) (has_size_of_object drawn) sized t.blocks v.blocks.sizes;
      within = v.blocks.within;
    };
    sizes = record {
      inodes = v.sizes.inodes;
      inode_blocks = v.sizes.inode_blocks;
      slots = v.sizes.slots;
      spots = v.sizes.spots;
      numbers = v.sizes.numbers;
      lengths = v.sizes.lengths;
    };
    free = record {
      inodes = v.free.inodes;
      names = v.free.names;
      blocks = v.free.blocks;
      objects = list_all-put by_object (λ (r : Object). nat_lt r.id (v.params.next_object + 1)) (new_object v.params.next_object) t.objects (below_next v.params.next_object)
          (list_all_weaker (λ (r : Object). nat_lt r.id v.params.next_object) (λ (r : Object). nat_lt r.id (v.params.next_object + 1)) (λ r low. later r.id v.params.next_object low) t.objects v.free.objects);
    };
  }
    where
      below_next : (n : ℕ) → IsTrue (nat_lt n (n + 1))
      below_next n = grind (arith, nat_tests)

      later : (a b : ℕ) → IsTrue (nat_lt a b) → IsTrue (nat_lt a (b + 1))
      later a b low = grind (arith, nat_tests, ltb-true a b low)

-- ---- so many objects

one_valid : (t : Tables) → IsValid t → IsValid (with_new_object t.params t)
one_valid t v = subst (λ (params : Option Parameters). IsValid (with_new_object params t)) (sym v.is_made) (drawn_valid t v)

one_tree : (t : Tables) (params : Option Parameters) → t.params ≡ params → shape_of_tables (with_new_object params t) ≡ shape_of_tables t
one_tree t None made = refl
one_tree t (Some p) made =
    ap (λ (x : Option Parameters). record (shape_of_tables t) {
      block_size = unwrap_or (option_map (λ (q : Parameters). q.block_size) x) 0;
      next_inode = unwrap_or (option_map (λ (q : Parameters). q.next_inode) x) 0;
    }) (sym made)

one_form : (t : Tables) (params : Option Parameters) (inode blockno : ℕ) → form_at (with_new_object params t) inode blockno ≡ form_at t inode blockno
one_form t None inode blockno = refl
one_form t (Some p) inode blockno = refl

one_unique : (t : Tables) (params : Option Parameters) → HasUniqueNames t → HasUniqueNames (with_new_object params t)
one_unique t None unique = unique
one_unique t (Some p) unique = unique

pub IsValid-with_new_objects : (t : Tables) (count : ℕ) → IsValid t → IsValid (with_new_objects count t)
IsValid-with_new_objects t zero v = v
IsValid-with_new_objects t (suc count) v = IsValid-with_new_objects (with_new_object t.params t) count (one_valid t v)

pub HasUniqueNames-with_new_objects : (t : Tables) (count : ℕ) → HasUniqueNames t → HasUniqueNames (with_new_objects count t)
HasUniqueNames-with_new_objects t zero unique = unique
HasUniqueNames-with_new_objects t (suc count) unique = HasUniqueNames-with_new_objects (with_new_object t.params t) count (one_unique t t.params unique)

pub Represents-with_new_objects : (t : Tables) (count : ℕ) (whole : Tree) → Represents t whole → Represents (with_new_objects count t) whole
Represents-with_new_objects t zero whole same = same
Represents-with_new_objects t (suc count) whole same = Represents-with_new_objects (with_new_object t.params t) count whole (one_tree t t.params refl ∙ same)

pub form_at-with_new_objects : (t : Tables) (count inode blockno : ℕ) → form_at (with_new_objects count t) inode blockno ≡ form_at t inode blockno
form_at-with_new_objects t zero inode blockno = refl
form_at-with_new_objects t (suc count) inode blockno = form_at-with_new_objects (with_new_object t.params t) count inode blockno ∙ one_form t t.params inode blockno
