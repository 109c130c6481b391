-- Changes of the table of names: what entries and attributes find of it, and what is owed.
use Rattle.std.proofs.Common.{◌≡◌, ◌≤◌, ℕ, ◌+◌, List, [], ◌∷◌, Bool, true, false, cond, Option, None, Some, refl, sym, ap, ◌∙◌, arith, eqb-true, eq-eqb, le-leb}
use Rattle.std.specs.Prelude.{IsTrue, not, ◌&&◌, ◌||◌, ◌==◌, is_some, nat_le, nat_lt, option_map, unwrap_or}
use Rattle.std.specs.List.{list_all}
use Rattle.std.specs.Cmp.{nat_cmp_total}
use Rattle.std.specs.Prelude.{count_by}
use Rattle.std.specs.Ordering.{is_eq}
use Rattle.std.proofs.lemmas.Bool.{and_from, and_parts}
use Rattle.s3_rows.specs.Rows.{Name, Content, Attr, Parameters}
use Rattle.s3_rows.specs.Keyed.{has_key, rises, put, without, row_at}
use Rattle.s3_rows.specs.Tables.{Tables, by_name}
use Rattle.s3_rows.specs.Selections.{name_at, bytes_cmp, bytes_of_name}
use Rattle.s3_rows.specs.Counts.{listed_name_count}
use Rattle.s3_rows.specs.Validity.{any_kind, finds_of_attr, has_inode, have_one_name, is_directory}
use Rattle.row_lemmas.proofs.Tests.{differ_agree, eqb_comm, false_from_not, find_passes_all, is_eq-nat_cmp, list_all-filter_same, list_all_from_list_any, is_some-option_map, list_all_true, list_all_weaker, list_all_weaker_both}
use Rattle.row_lemmas.proofs.Sums.{list_any_from_count_by}
use Rattle.row_lemmas.proofs.Keyed.Rises.{rises-without}
use Rattle.row_lemmas.proofs.Keyed.Put.{rises-put, row_at-put, list_all-put, list_all-put_else}
use Rattle.row_lemmas.proofs.Keyed.Without.{list_all-without, row_at-without_other}
use Rattle.tree_rows.specs.Premises.{FindsRows, finds_directory_and_name}
use Rattle.row_steps.specs.Owed.{Owes, owes_uses, times}
use Rattle.row_steps.proofs.Owed.Inodes.{one_number, times_first, times_other}

-- the bytes of a row
abbrev pub bytes_of_row : Name → List ℕ
bytes_of_row n = n.name

-- names that pass are there after the change, with their bytes
abbrev pub KeepsBytes : Tables → List Name → (ℕ → Bool) → Type 0
KeepsBytes t rows ok = (k : ℕ) → IsTrue (ok k) → IsTrue (is_some (name_at t k))
    → option_map bytes_of_row (row_at by_name k rows) ≡ option_map bytes_of_row (name_at t k)

-- all names that entries and attributes have pass
pub record UsesOnly (t : Tables) (ok : ℕ → Bool) : Type 0 where
  pub entries : IsTrue (list_all (λ (r : Content). ok r.name_id) t.contents)
  pub attrs : IsTrue (list_all (λ (r : Attr). ok r.name_id) t.attrs)

pub any_name : (t : Tables) → UsesOnly t (λ x. true)
any_name t = record { entries = list_all_true t.contents; attrs = list_all_true t.attrs }

module _ (t : Tables) (p : Parameters) (rows : List Name) (ok : ℕ → Bool) (only : UsesOnly t ok) (keeps : KeepsBytes t rows ok) where
  abbrev after : Tables
  after = record t { names = rows }

  there_after : (k : ℕ) → IsTrue (ok k) → IsTrue (is_some (name_at t k)) → IsTrue (is_some (name_at after k))
  there_after k good there =
      sym (is_some-option_map bytes_of_row (name_at after k)) ∙ ap is_some (keeps k good there)
      ∙ is_some-option_map bytes_of_row (name_at t k) ∙ there

  pub bytes_after : (k : ℕ) → IsTrue (ok k) → IsTrue (is_some (name_at t k)) → bytes_of_name after k ≡ bytes_of_name t k
  bytes_after k good there = ap (λ (found : Option (List ℕ)). unwrap_or found []) (keeps k good there)

  FindsRows_after : FindsRows t → FindsRows after
  FindsRows_after finds = record {
    entries =
        list_all_weaker_both (λ (r : Content). ok r.name_id) (finds_directory_and_name t) (finds_directory_and_name after)
        (λ r good own.
        let parts = and_parts (has_inode is_directory t r.parent) (is_some (name_at t r.name_id)) own in
        and_from (has_inode is_directory t r.parent) (is_some (name_at after r.name_id)) parts.0 (there_after r.name_id good parts.1))
        t.contents only.entries finds.entries;
    inode_blocks = finds.inode_blocks;
    targets = finds.targets;
    attrs =
        list_all_weaker_both (λ (r : Attr). ok r.name_id) (finds_of_attr t) (finds_of_attr after)
        (λ r good own.
        let parts = and_parts (has_inode any_kind t r.inode) (is_some (name_at t r.name_id)) own in
        and_from (has_inode any_kind t r.inode) (is_some (name_at after r.name_id)) parts.0 (there_after r.name_id good parts.1))
        t.attrs only.attrs finds.attrs;
    slots = finds.slots;
  }

  -- an entry whose name passes and is there
  abbrev is_kept : Content → Bool
  is_kept r = ok r.name_id && is_some (name_at t r.name_id)

  alike_after : (a b : Content) → IsTrue (is_kept a) → IsTrue (is_kept b) → have_one_name after a b ≡ have_one_name t a b
  alike_after a b first second =
      let one = and_parts (ok a.name_id) (is_some (name_at t a.name_id)) first in
      let two = and_parts (ok b.name_id) (is_some (name_at t b.name_id)) second in
      λ i. a.parent == b.parent && is_eq (bytes_cmp ((bytes_after a.name_id one.0 one.1) i) ((bytes_after b.name_id two.0 two.1) i))

  -- other rows of names, each with its count and below the next id
  pub Owes-names : (links uses now : List ℕ) → Owes t p links uses → IsTrue (rises by_name rows)
      → IsTrue (list_all (owes_uses t now) rows) → IsTrue (list_all (λ (r : Name). nat_lt r.id p.next_name) rows)
      → Owes after p links now
  Owes-names links uses now o rise counts below = record {
    made = o.made;
    ordered = record {
      inodes = o.ordered.inodes;
      names = rise;
      contents = o.ordered.contents;
      inode_blocks = o.ordered.inode_blocks;
      blocks = o.ordered.blocks;
      objects = o.ordered.objects;
      targets = o.ordered.targets;
      attrs = o.ordered.attrs;
      slots = o.ordered.slots;
    };
    unlike =
        differ_agree is_kept (have_one_name t) (have_one_name after) alike_after t.contents
        (list_all_weaker_both (λ (r : Content). ok r.name_id) (finds_directory_and_name t) is_kept
        (λ r good own. and_from (ok r.name_id) (is_some (name_at t r.name_id)) good
        (and_parts (has_inode is_directory t r.parent) (is_some (name_at t r.name_id)) own).1)
        t.contents only.entries o.rows.entries)
        ∙ o.unlike;
    inodes = o.inodes;
    names = counts;
    blocks = o.blocks;
    objects = o.objects;
    rows = FindsRows_after o.rows;
    distinct = record { digests = o.distinct.digests; objects = o.distinct.objects; sizes = o.distinct.sizes; within = o.distinct.within };
    sizes = record {
      inodes = o.sizes.inodes;
      inode_blocks = o.sizes.inode_blocks;
      slots = o.sizes.slots;
      spots = o.sizes.spots;
      numbers = o.sizes.numbers;
      lengths = o.sizes.lengths;
    };
    free = record { names = below; blocks = o.free.blocks; objects = o.free.objects };
    numbers = o.numbers;
    children = o.children;
  }

-- ---- a put

-- names that are there keep their bytes where the row that is put has those of its id
pub KeepsBytes-put : (t : Tables) (row : Name) → ((old : Name) → name_at t row.id ≡ Some old → old.name ≡ row.name)
    → KeepsBytes t (put by_name row t.names) (λ x. true)
KeepsBytes-put t row kept k good there = ap (option_map bytes_of_row) (row_at-put by_name nat_cmp_total k row t.names) ∙ by_case (has_key by_name k row) refl
  where
    by_row : k ≡ row.id → (found : Option Name) → name_at t k ≡ found → IsTrue (is_some found) → Some row.name ≡ option_map bytes_of_row found
    by_row same None is some = absurd (cc some)
    by_row same (Some old) is some = ap Some (sym (kept old (ap (name_at t) (sym same) ∙ is)))

    by_case : (b : Bool) → has_key by_name k row ≡ b → option_map bytes_of_row (cond b (Some row) (name_at t k)) ≡ option_map bytes_of_row (name_at t k)
    by_case true is = by_row (one_number k row.id is) (name_at t k) refl there
    by_case false is = refl

module _ (t : Tables) (p : Parameters) (row : Name) (links uses now : List ℕ) (o : Owes t p links uses) where
  uses_after : IsTrue (owes_uses t now row) → ((x : ℕ) → (row.id == x) ≡ false → times x now ≡ times x uses)
      → IsTrue (list_all (owes_uses t now) (put by_name row t.names))
  uses_after own others =
      list_all-put_else by_name nat_cmp_total (owes_uses t now) row t.names o.ordered.names own
      (list_all_weaker (owes_uses t uses) (λ r. has_key by_name row.id r || owes_uses t now r) each t.names o.names)
    where
      each : (r : Name) → IsTrue (owes_uses t uses r) → IsTrue (has_key by_name row.id r || owes_uses t now r)
      each r owed = by_case (has_key by_name row.id r) refl
        where
          by_case : (b : Bool) → has_key by_name row.id r ≡ b → IsTrue (b || owes_uses t now r)
          by_case true is = refl
          by_case false is =
              ap (λ n. r.refcount == listed_name_count t r.id + n && nat_le 1 r.refcount) (others r.id (sym (is_eq-nat_cmp row.id r.id) ∙ is)) ∙ owed

  pub Owes-put_name : ((old : Name) → name_at t row.id ≡ Some old → old.name ≡ row.name)
      → row.refcount ≡ listed_name_count t row.id + times row.id now → IsTrue (nat_le 1 row.refcount)
      → ((x : ℕ) → (row.id == x) ≡ false → times x now ≡ times x uses) → IsTrue (nat_lt row.id p.next_name)
      → Owes (record t { names = put by_name row t.names }) p links now
  Owes-put_name kept count some others below =
      Owes-names t p (put by_name row t.names) (λ x. true) (any_name t) (KeepsBytes-put t row kept) links uses now o
      (rises-put by_name nat_cmp_total row t.names o.ordered.names)
      (uses_after (and_from (row.refcount == listed_name_count t row.id + times row.id now) (nat_le 1 row.refcount)
      (eq-eqb row.refcount (listed_name_count t row.id + times row.id now) count) some) others)
      (list_all-put by_name (λ (r : Name). nat_lt r.id p.next_name) row t.names below o.free.names)

-- ---- a row that is there

module _ (t : Tables) (p : Parameters) (n : Name) (links uses : List ℕ) (o : Owes t p links uses) (there : name_at t n.id ≡ Some n) where
  owed : IsTrue (owes_uses t uses n)
  owed = find_passes_all (has_key by_name n.id) (owes_uses t uses) t.names n o.names there

  count_is : n.refcount ≡ listed_name_count t n.id + times n.id uses
  count_is = eqb-true n.refcount (listed_name_count t n.id + times n.id uses)
      (and_parts (n.refcount == listed_name_count t n.id + times n.id uses) (nat_le 1 n.refcount) owed).0

  below_is : IsTrue (nat_lt n.id p.next_name)
  below_is = find_passes_all (has_key by_name n.id) (λ (r : Name). nat_lt r.id p.next_name) t.names n o.free.names there

  pub own_bytes : (old : Name) → name_at t n.id ≡ Some old → old.name ≡ n.name
  own_bytes old is =
      let both : Some old ≡ Some n = sym is ∙ there in
      let same : old ≡ n = cc both in
      ap bytes_of_row same

  -- a name that counts one use more owes it
  pub Owes-put_name_more : Owes (record t { names = put by_name (record n { refcount = n.refcount + 1 }) t.names }) p links (n.id ∷ uses)
  Owes-put_name_more =
      Owes-put_name t p (record n { refcount = n.refcount + 1 }) links uses (n.id ∷ uses) o own_bytes
      (omega (arith, count_is, times_first n.id uses)) (le-leb 1 (n.refcount + 1) (omega arith))
      (λ x other. times_other n.id x uses other) below_is

-- a name that counts one use less owes it no more
pub Owes-put_name_less : (t : Tables) (p : Parameters) (n : Name) (count : ℕ) (links uses : List ℕ) → Owes t p links (n.id ∷ uses)
    → name_at t n.id ≡ Some n → count + 1 ≡ n.refcount → 1 ≤ count
    → Owes (record t { names = put by_name (record n { refcount = count }) t.names }) p links uses
Owes-put_name_less t p n count links uses o there less some =
    Owes-put_name t p (record n { refcount = count }) links (n.id ∷ uses) uses o (own_bytes t p n links (n.id ∷ uses) o there)
    (omega (arith, count_is t p n links (n.id ∷ uses) o there, times_first n.id uses, less)) (le-leb 1 count some)
    (λ x other. sym (times_other n.id x uses other)) (below_is t p n links (n.id ∷ uses) o there)

-- ---- a delete

-- a name that counted one use, which it owed, is deleted
module _ (t : Tables) (p : Parameters) (n : Name) (links uses : List ℕ) (o : Owes t p links (n.id ∷ uses)) (there : name_at t n.id ≡ Some n) (last : n.refcount ≡ 1) where
  abbrev pub rows : List Name
  rows = without by_name n.id t.names

  abbrev pub apart : ℕ → Bool
  apart x = not (x == n.id)

  pub unused : UsesOnly t apart
  unused =
      let count = count_is t p n links (n.id ∷ uses) o there in
      let entries : count_by (λ (r : Content). r.name_id == n.id) t.contents ≡ 0 = omega (arith, count, last, times_first n.id uses) in
      let attrs : count_by (λ (r : Attr). r.name_id == n.id) t.attrs ≡ 0 = omega (arith, count, last, times_first n.id uses) in
      record {
        entries = list_all_from_list_any (λ (r : Content). r.name_id == n.id) t.contents (ap not (list_any_from_count_by (λ (r : Content). r.name_id == n.id) t.contents entries));
        attrs = list_all_from_list_any (λ (r : Attr). r.name_id == n.id) t.attrs (ap not (list_any_from_count_by (λ (r : Attr). r.name_id == n.id) t.attrs attrs));
      }

  pub KeepsBytes-without : KeepsBytes t rows apart
  KeepsBytes-without k good there =
      ap (option_map bytes_of_row)
      (row_at-without_other by_name nat_cmp_total n.id k t.names (is_eq-nat_cmp n.id k ∙ eqb_comm n.id k ∙ false_from_not (k == n.id) good))

  pub Owes-without_name : Owes (record t { names = rows }) p links uses
  Owes-without_name =
      Owes-names t p rows apart unused KeepsBytes-without links (n.id ∷ uses) uses o
      (rises-without by_name n.id t.names o.ordered.names)
      (list_all_weaker_both (λ r. not (has_key by_name n.id r)) (owes_uses t (n.id ∷ uses)) (owes_uses t uses)
      (λ r away owed. ap (λ m. r.refcount == listed_name_count t r.id + m && nat_le 1 r.refcount)
      (sym (times_other n.id r.id uses (sym (is_eq-nat_cmp n.id r.id) ∙ false_from_not (has_key by_name n.id r) away))) ∙ owed)
      rows (list_all-filter_same (λ r. not (has_key by_name n.id r)) t.names) (list_all-without by_name (owes_uses t (n.id ∷ uses)) n.id t.names o.names))
      (list_all-without by_name (λ (r : Name). nat_lt r.id p.next_name) n.id t.names o.free.names)
