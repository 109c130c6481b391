-- Next numbers that rise, and the next inode number, of which no row speaks.
use Rattle.std.proofs.Common.{◌≡◌, ◌≤◌, ℕ, List, [], ◌∷◌, Bool, true, false, cond, None, Some, refl, ap, ◌∙◌, arith, eqb-true, ltb-true, lt-ltb}
use Rattle.std.specs.Prelude.{IsTrue, not, ◌==◌, count_by, is_some, map, nat_lt}
use Rattle.std.specs.List.{list_all, filter_map}
use Rattle.std.proofs.lemmas.Bool.{and_parts}
use Rattle.s3_base.specs.Numbers.{root}
use Rattle.s3_rows.specs.declared.lists.NamedAttr.{NamedAttr}
use Rattle.s3_rows.specs.declared.lists.NamedEntry.{NamedEntry}
use Rattle.s3_rows.specs.Rows.{Inode, Name, Content, Target, Attr, Parameters}
use Rattle.s3_rows.specs.Keyed.{has_key, sorted_by}
use Rattle.s3_rows.specs.Tables.{Tables, by_inode, by_target}
use Rattle.s3_rows.specs.Selections.{inode_at, name_at, target_at, with_attr_name, with_entry_name, by_attr_name, by_entry_name}
use Rattle.s3_rows.specs.Counts.{listed_inode_count}
use Rattle.s3_rows.specs.Validity.{any_kind, finds_of_attr, has_inode, is_directory, is_link}
use Rattle.row_lemmas.proofs.Tests.{filter_none, find_none, is_eq-nat_cmp, list_all_weaker}
use Rattle.row_lemmas.proofs.Sums.{count_by_none}
use Rattle.tree_rows.specs.Premises.{finds_directory_and_name}
use Rattle.tree_rows.specs.Shapes.{attributes_in, entries_in}
use Rattle.tree_rows.proofs.Listed.{is_in}
use Rattle.row_steps.specs.Owed.{Owes, times}
use Rattle.row_steps.proofs.Owed.Inodes.{below_from_there}

-- a number below another is not it
pub apart_below : (x y : ℕ) → IsTrue (nat_lt x y) → (x == y) ≡ false
apart_below x y less = by_case (x == y) refl
  where
    by_case : (c : Bool) → (x == y) ≡ c → c ≡ false
    by_case true is = absurd (omega (arith, ltb-true x y less, eqb-true x y is))
    by_case false is = refl

pub apart_above : (x y : ℕ) → IsTrue (nat_lt x y) → (y == x) ≡ false
apart_above x y less = by_case (y == x) refl
  where
    by_case : (c : Bool) → (y == x) ≡ c → c ≡ false
    by_case true is = absurd (omega (arith, ltb-true x y less, eqb-true y x is))
    by_case false is = refl

-- nothing is owed to a number above all that are owed to
pub times_none : (next : ℕ) (ids : List ℕ) → IsTrue (list_all (λ x. nat_lt x next) ids) → times next ids ≡ 0
times_none next [] all = refl
times_none next (x ∷ xs) all =
    let parts = and_parts (nat_lt x next) (list_all (λ y. nat_lt y next) xs) all in
    let other : cond {A = ℕ} (x == next) 1 0 ≡ 0 = ap (λ b. cond {A = ℕ} b 1 0) (apart_below x next parts.0) in
    omega (arith, other, times_none next xs parts.1)

lower : (x a b : ℕ) → a ≤ b → IsTrue (nat_lt x a) → IsTrue (nat_lt x b)
lower x a b most less = lt-ltb x b (omega (arith, most, ltb-true x a less))

-- next numbers of inodes and names may rise
pub Owes-params : (t : Tables) (p : Parameters) (a b : ℕ) (links uses : List ℕ) → Owes t p links uses → p.next_inode ≤ a → p.next_name ≤ b
    → Owes (record t { params = Some (record p { next_inode = a; next_name = b }) }) (record p { next_inode = a; next_name = b }) links uses
Owes-params t p a b links uses o inodes names = record {
  made = refl;
  ordered = record {
    inodes = o.ordered.inodes;
    names = o.ordered.names;
    contents = o.ordered.contents;
    inode_blocks = o.ordered.inode_blocks;
    blocks = o.ordered.blocks;
    objects = o.ordered.objects;
    targets = o.ordered.targets;
    attrs = o.ordered.attrs;
    slots = o.ordered.slots;
  };
  unlike = o.unlike;
  inodes = o.inodes;
  names = o.names;
  blocks = o.blocks;
  objects = o.objects;
  rows = record { entries = o.rows.entries; inode_blocks = o.rows.inode_blocks; targets = o.rows.targets; attrs = o.rows.attrs; slots = o.rows.slots };
  distinct = record { digests = o.distinct.digests; objects = o.distinct.objects; sizes = o.distinct.sizes; within = o.distinct.within };
  sizes = record {
    inodes = o.sizes.inodes;
    inode_blocks = o.sizes.inode_blocks;
    slots = o.sizes.slots;
    spots = o.sizes.spots;
    numbers = o.sizes.numbers;
    lengths = o.sizes.lengths;
  };
  free = record {
    names = list_all_weaker (λ (r : Name). nat_lt r.id p.next_name) (λ r. nat_lt r.id b) (λ r less. lower r.id p.next_name b names less) t.names o.free.names;
    blocks = o.free.blocks;
    objects = o.free.objects;
  };
  numbers = list_all_weaker (λ (r : Inode). nat_lt r.id p.next_inode) (λ r. nat_lt r.id a) (λ r less. lower r.id p.next_inode a inodes less) t.inodes o.numbers;
  children = list_all_weaker (λ (r : Content). nat_lt r.inode p.next_inode) (λ r. nat_lt r.inode a) (λ r less. lower r.inode p.next_inode a inodes less) t.contents o.children;
}

-- ---- the next inode number

module _ (t : Tables) (p : Parameters) (links uses : List ℕ) (o : Owes t p links uses) where
  -- it has no row
  pub next_has_no_row : inode_at t p.next_inode ≡ None
  next_has_no_row =
      find_none (has_key by_inode p.next_inode) (λ (r : Inode). nat_lt r.id p.next_inode)
      (λ r less. is_eq-nat_cmp p.next_inode r.id ∙ apart_above r.id p.next_inode less) t.inodes o.numbers

  -- no entry names it
  pub next_is_unlisted : IsTrue (nat_lt root p.next_inode) → listed_inode_count t p.next_inode ≡ 0
  next_is_unlisted above =
      ap (λ b. cond b 1 (count_by (λ (r : Content). r.inode == p.next_inode) t.contents)) (apart_above root p.next_inode above)
      ∙ count_by_none (λ (r : Content). r.inode == p.next_inode) t.contents
      (list_all_weaker (λ (r : Content). nat_lt r.inode p.next_inode) (λ r. not (r.inode == p.next_inode))
      (λ r less. ap not (apart_below r.inode p.next_inode less)) t.contents o.children)

  -- and it has neither attributes nor entries nor a target
  pub next_has_no_attributes : attributes_in t p.next_inode ≡ []
  next_has_no_attributes =
      ap (λ rows. map (λ (a : NamedAttr). (a.name, a.row.value)) (sorted_by by_attr_name (filter_map (with_attr_name t) rows)))
      (filter_none (λ (r : Attr). r.inode == p.next_inode) (finds_of_attr t) t.attrs
      (λ r finds. apart_below r.inode p.next_inode (below_from_there t p.next_inode o.numbers r.inode (λ kind size. any_kind kind)
      (and_parts (has_inode any_kind t r.inode) (is_some (name_at t r.name_id)) finds).0)) o.rows.attrs)

  pub next_has_no_entries : entries_in t p.next_inode ≡ []
  next_has_no_entries =
      ap (λ rows. map (λ (e : NamedEntry). (e.name, e.row.inode)) (sorted_by by_entry_name (filter_map (with_entry_name t) rows)))
      (filter_none (is_in p.next_inode) (finds_directory_and_name t) t.contents
      (λ r finds. apart_below r.parent p.next_inode (below_from_there t p.next_inode o.numbers r.parent (λ kind size. is_directory kind)
      (and_parts (has_inode is_directory t r.parent) (is_some (name_at t r.name_id)) finds).0)) o.rows.entries)

  pub next_has_no_target : target_at t p.next_inode ≡ None
  next_has_no_target =
      find_none (has_key by_target p.next_inode) (λ (r : Target). has_inode is_link t r.inode)
      (λ r finds. is_eq-nat_cmp p.next_inode r.inode
      ∙ apart_above r.inode p.next_inode (below_from_there t p.next_inode o.numbers r.inode (λ kind size. is_link kind) finds)) t.targets o.rows.targets
