-- Changes of the tables of attributes and of targets: what is owed.
use Rattle.std.proofs.Common.{◌≡◌, ℕ, ◌+◌, List, ◌∷◌, length, Bool, true, false, cond, Option, None, Some, refl, sym, ap, ◌∙◌, subst, arith, eq-eqb}
use Rattle.std.specs.Prelude.{IsTrue, ◌&&◌, ◌==◌, count_by, is_some, nat_le}
use Rattle.std.specs.List.{list_all}
use Rattle.std.proofs.lemmas.List.Sums.{sum_by-cons}
use Rattle.std.specs.Cmp.{nat_cmp_total}
use Rattle.std.specs.Ordering.{nat_cmp, is_eq}
use Rattle.s3_base.specs.declared.node_kind.Kind.{Kind}
use Rattle.s3_base.specs.declared.node_kind.Kind.TheVariants as kinds
use Rattle.s3_rows.specs.Rows.{Inode, Target, Attr, Parameters}
use Rattle.s3_rows.specs.Keyed.{has_key, rises, put, without}
use Rattle.s3_rows.specs.Tables.{Tables, by_attr, by_inode, by_target}
use Rattle.s3_rows.specs.Selections.{inode_at, attr_at, target_at}
use Rattle.s3_rows.specs.Counts.{listed_name_count}
use Rattle.s3_rows.specs.Validity.{finds_of_attr, has_inode, is_link}
use Rattle.row_lemmas.proofs.Tests.{find_passes, list_all_weaker, pair_parts}
use Rattle.row_lemmas.proofs.Keyed.Rises.{rises-without}
use Rattle.row_lemmas.proofs.Keyed.RowAt.{list_all_from_row_at, row_at_passes}
use Rattle.row_lemmas.proofs.Keyed.Put.{rises-put, list_all-put, row_at-put}
use Rattle.row_lemmas.proofs.Keyed.Without.{list_all-without, row_at-without}
use Rattle.row_lemmas.proofs.Keyed.Count.{count_by-put_new, count_by-put_there, count_by-without_there}
use Rattle.row_lemmas.proofs.Tables.{pair_cmp_total}
use Rattle.tree_rows.specs.Premises.{fits_kind, fits_size}
use Rattle.row_steps.specs.Owed.{Owes, owes_uses, times}
use Rattle.row_steps.proofs.Owed.Inodes.{one_number}

-- ---- attributes

module _ (t : Tables) (p : Parameters) (rows : List Attr) where
  abbrev after : Tables
  after = record t { attrs = rows }

  -- other rows of attributes, with what is owed for them
  Owes-attrs : (links uses now : List ℕ) → Owes t p links uses → IsTrue (rises by_attr rows)
      → ((x : ℕ) → listed_name_count after x + times x now ≡ listed_name_count t x + times x uses)
      → IsTrue (list_all (finds_of_attr t) rows) → Owes after p links now
  Owes-attrs links uses now o rise same_uses finds = record {
    made = o.made;
    ordered = record {
      inodes = o.ordered.inodes;
      names = o.ordered.names;
      contents = o.ordered.contents;
      inode_blocks = o.ordered.inode_blocks;
      blocks = o.ordered.blocks;
      objects = o.ordered.objects;
      targets = o.ordered.targets;
      attrs = rise;
      slots = o.ordered.slots;
    };
    unlike = o.unlike;
    inodes = o.inodes;
    names =
        list_all_weaker (owes_uses t uses) (owes_uses after now)
        (λ r own. ap (λ n. r.refcount == n && nat_le 1 r.refcount) (same_uses r.id) ∙ own) t.names o.names;
    blocks = o.blocks;
    objects = o.objects;
    rows = record { entries = o.rows.entries; inode_blocks = o.rows.inode_blocks; targets = o.rows.targets; attrs = finds; slots = o.rows.slots };
    distinct = record { digests = o.distinct.digests; objects = o.distinct.objects; sizes = o.distinct.sizes; within = o.distinct.within };
    sizes = record {
      inodes = o.sizes.inodes;
      inode_blocks = o.sizes.inode_blocks;
      slots = o.sizes.slots;
      spots = o.sizes.spots;
      numbers = o.sizes.numbers;
      lengths = o.sizes.lengths;
    };
    free = record { names = o.free.names; blocks = o.free.blocks; objects = o.free.objects };
    numbers = o.numbers;
    children = o.children;
  }

-- a new attribute is the use that was owed
pub Owes-put_attr_new : (t : Tables) (p : Parameters) (a : Attr) (links uses : List ℕ) → Owes t p links (a.name_id ∷ uses)
    → attr_at t a.inode a.name_id ≡ None → IsTrue (finds_of_attr t a) → Owes (record t { attrs = put by_attr a t.attrs }) p links uses
Owes-put_attr_new t p a links uses o none finds =
    let one : Attr → ℕ → ℕ = λ r x. cond (r.name_id == x) 1 0 in
    let counted : (x : ℕ) → count_by (λ (r : Attr). r.name_id == x) (put by_attr a t.attrs) ≡ cond (a.name_id == x) 1 0 + count_by (λ (r : Attr). r.name_id == x) t.attrs =
    λ x. count_by-put_new by_attr (λ (r : Attr). r.name_id == x) a t.attrs (ap is_some none) ∙ sum_by-cons (λ (r : Attr). one r x) a t.attrs in
    Owes-attrs t p (put by_attr a t.attrs) links (a.name_id ∷ uses) uses o (rises-put by_attr pair_cmp_total a t.attrs o.ordered.attrs)
    (λ x. omega (arith, counted x)) (list_all-put by_attr (finds_of_attr t) a t.attrs finds o.rows.attrs)

-- one in place of another of its name owes nothing
pub Owes-put_attr_there : (t : Tables) (p : Parameters) (old a : Attr) (links uses : List ℕ) → Owes t p links uses
    → attr_at t a.inode a.name_id ≡ Some old → Owes (record t { attrs = put by_attr a t.attrs }) p links uses
Owes-put_attr_there t p old a links uses o there =
    let parts = pair_parts (a.inode, a.name_id) (old.inode, old.name_id) (find_passes (has_key by_attr (a.inode, a.name_id)) t.attrs old there) in
    let same : (x : ℕ) → cond {A = ℕ} (old.name_id == x) 1 0 ≡ cond (a.name_id == x) 1 0 = λ x. ap (λ k. cond {A = ℕ} (k == x) 1 0) (sym parts.1) in
    let counted : (x : ℕ) → cond (old.name_id == x) 1 0 + count_by (λ (r : Attr). r.name_id == x) (put by_attr a t.attrs) ≡ cond (a.name_id == x) 1 0 + count_by (λ (r : Attr). r.name_id == x) t.attrs =
    λ x. count_by-put_there by_attr pair_cmp_total (λ (r : Attr). r.name_id == x) a old t.attrs o.ordered.attrs there in
    Owes-attrs t p (put by_attr a t.attrs) links uses uses o (rises-put by_attr pair_cmp_total a t.attrs o.ordered.attrs)
    (λ x. omega (arith, counted x, same x))
    (list_all-put by_attr (finds_of_attr t) a t.attrs
    ((λ i. finds_of_attr t (record a { inode = parts.0 i; name_id = parts.1 i }))
    ∙ row_at_passes by_attr (finds_of_attr t) (a.inode, a.name_id) t.attrs old o.rows.attrs there) o.rows.attrs)

-- one that is deleted owes its use
pub Owes-without_attr : (t : Tables) (p : Parameters) (a : Attr) (links uses : List ℕ) → Owes t p links uses
    → attr_at t a.inode a.name_id ≡ Some a → Owes (record t { attrs = without by_attr (a.inode, a.name_id) t.attrs }) p links (a.name_id ∷ uses)
Owes-without_attr t p a links uses o there =
    let counted : (x : ℕ) → cond (a.name_id == x) 1 0 + count_by (λ (r : Attr). r.name_id == x) (without by_attr (a.inode, a.name_id) t.attrs) ≡ count_by (λ (r : Attr). r.name_id == x) t.attrs =
    λ x. count_by-without_there by_attr pair_cmp_total (λ (r : Attr). r.name_id == x) (a.inode, a.name_id) a t.attrs o.ordered.attrs there in
    Owes-attrs t p (without by_attr (a.inode, a.name_id) t.attrs) links uses (a.name_id ∷ uses) o
    (rises-without by_attr (a.inode, a.name_id) t.attrs o.ordered.attrs) (λ x. omega (arith, counted x))
    (list_all-without by_attr (finds_of_attr t) (a.inode, a.name_id) t.attrs o.rows.attrs)

-- ---- targets

module _ (t : Tables) (p : Parameters) (rows : List Target) where
  abbrev after_targets : Tables
  after_targets = record t { targets = rows }

  Owes-targets : (links uses : List ℕ) → Owes t p links uses → IsTrue (rises by_target rows)
      → IsTrue (list_all (λ (r : Target). has_inode is_link t r.inode) rows) → IsTrue (list_all (fits_kind after_targets) t.inodes) → Owes after_targets p links uses
  Owes-targets links uses o rise finds fits = record {
    made = o.made;
    ordered = record {
      inodes = o.ordered.inodes;
      names = o.ordered.names;
      contents = o.ordered.contents;
      inode_blocks = o.ordered.inode_blocks;
      blocks = o.ordered.blocks;
      objects = o.ordered.objects;
      targets = rise;
      attrs = o.ordered.attrs;
      slots = o.ordered.slots;
    };
    unlike = o.unlike;
    inodes = o.inodes;
    names = o.names;
    blocks = o.blocks;
    objects = o.objects;
    rows = record { entries = o.rows.entries; inode_blocks = o.rows.inode_blocks; targets = finds; attrs = o.rows.attrs; slots = o.rows.slots };
    distinct = record { digests = o.distinct.digests; objects = o.distinct.objects; sizes = o.distinct.sizes; within = o.distinct.within };
    sizes = record {
      inodes = fits;
      inode_blocks = o.sizes.inode_blocks;
      slots = o.sizes.slots;
      spots = o.sizes.spots;
      numbers = o.sizes.numbers;
      lengths = o.sizes.lengths;
    };
    free = record { names = o.free.names; blocks = o.free.blocks; objects = o.free.objects };
    numbers = o.numbers;
    children = o.children;
  }

-- the target of a symbolic link of its length
pub Owes-put_target : (t : Tables) (p : Parameters) (x : Target) (r : Inode) (links uses : List ℕ) → Owes t p links uses
    → inode_at t x.inode ≡ Some r → r.kind ≡ kinds.Link → r.size ≡ length x.target → Owes (record t { targets = put by_target x t.targets }) p links uses
Owes-put_target t p x r links uses o there kind size =
    Owes-targets t p (put by_target x t.targets) links uses o (rises-put by_target nat_cmp_total x t.targets o.ordered.targets)
    (list_all-put by_target (λ (y : Target). has_inode is_link t y.inode) x t.targets
    (ap (λ (found : Option Inode). elim found [ Some y ↦ is_link y.kind | None ↦ false ]) there ∙ ap is_link kind) o.rows.targets)
    (list_all_from_row_at by_inode nat_cmp_total (fits_kind (record t { targets = put by_target x t.targets })) t.inodes o.ordered.inodes each)
  where
    own : IsTrue (fits_size r.kind (Some x) r.size)
    own = (λ i. fits_size (kind i) (Some x) (size i)) ∙ eq-eqb (length x.target) (length x.target) refl

    each : (k : ℕ) (y : Inode) → inode_at t k ≡ Some y → IsTrue (fits_kind (record t { targets = put by_target x t.targets }) y)
    each k y found = subst (λ (z : Option Target). IsTrue (fits_size y.kind z y.size)) (sym (row_at-put by_target nat_cmp_total y.id x t.targets)) (by_case (has_key by_target y.id x) refl)
      where
        by_case : (b : Bool) → has_key by_target y.id x ≡ b → IsTrue (fits_size y.kind (cond b (Some x) (target_at t y.id)) y.size)
        by_case true is =
            let number : k ≡ x.inode = one_number k y.id (find_passes (has_key by_inode k) t.inodes y found) ∙ one_number y.id x.inode is in
            let both : Some r ≡ Some y = sym there ∙ ap (inode_at t) (sym number) ∙ found in
            let same : r ≡ y = cc both in
            subst (λ (z : Inode). IsTrue (fits_size z.kind (Some x) z.size)) same own
        by_case false is = row_at_passes by_inode (fits_kind t) k t.inodes y o.sizes.inodes found

-- and without it
pub Owes-without_target : (t : Tables) (p : Parameters) (id : ℕ) (links uses : List ℕ) → Owes t p links uses
    → Owes (record t { targets = without by_target id t.targets }) p links uses
Owes-without_target t p id links uses o =
    Owes-targets t p (without by_target id t.targets) links uses o (rises-without by_target id t.targets o.ordered.targets)
    (list_all-without by_target (λ (y : Target). has_inode is_link t y.inode) id t.targets o.rows.targets)
    (list_all_weaker (fits_kind t) (fits_kind (record t { targets = without by_target id t.targets })) each t.inodes o.sizes.inodes)
  where
    fewer : (kind : Kind) (b : Bool) (found : Option Target) (size : ℕ) → IsTrue (fits_size kind found size) → IsTrue (fits_size kind (cond b None found) size)
    fewer kinds.Directory b found size fits = fits
    fewer kinds.Regular b found size fits = refl
    fewer kinds.Link true found size fits = refl
    fewer kinds.Link false found size fits = fits

    each : (y : Inode) → IsTrue (fits_kind t y) → IsTrue (fits_kind (record t { targets = without by_target id t.targets }) y)
    each y fits =
        subst (λ (z : Option Target). IsTrue (fits_size y.kind z y.size)) (sym (row_at-without by_target nat_cmp_total id y.id t.targets))
        (fewer y.kind (is_eq (nat_cmp id y.id)) (target_at t y.id) y.size fits)
