-- Changes of the table of entries: what is owed, where an entry is put or deleted.
use Rattle.std.proofs.Common.{◌≡◌, ℕ, ◌+◌, List, [], ◌∷◌, Bool, true, false, cond, Some, refl, sym, ap, ◌∙◌, arith, eqb-true, eq-eqb}
use Rattle.std.specs.Prelude.{IsTrue, not, ◌&&◌, ◌==◌, count_by, filter, is_some, nat_le, nat_lt}
use Rattle.std.specs.List.{list_all, list_any}
use Rattle.std.proofs.lemmas.List.Sums.{sum_by-cons}
use Rattle.std.specs.Cmp.{tied_itself}
use Rattle.std.proofs.lemmas.Cmp.{nat_list_cmp_total}
use Rattle.std.specs.declared.cmp.Ordering.{Ordering}
use Rattle.std.specs.declared.cmp.Ordering.TheVariants.{Less, Equal, Greater}
use Rattle.std.specs.Ordering.{is_eq, ordering_reverse}
use Rattle.std.proofs.lemmas.Bool.{and_from, and_parts}
use Rattle.s3_base.specs.Numbers.{root}
use Rattle.s3_rows.specs.Rows.{Content, Parameters}
use Rattle.s3_rows.specs.Keyed.{has_key, rises, put, without}
use Rattle.s3_rows.specs.Tables.{Tables, by_entry}
use Rattle.s3_rows.specs.Selections.{bytes_cmp, bytes_of_name, entry_at}
use Rattle.s3_rows.specs.Counts.{listed_inode_count, listed_name_count}
use Rattle.s3_rows.specs.Validity.{differ, have_one_name}
use Rattle.row_lemmas.proofs.Tests.{is_some-find_none, eqb_comm, list_all-filter, list_all_from_list_any, list_all_weaker, list_any_from_list_all, pair_parts}
use Rattle.row_lemmas.proofs.Keyed.Rises.{rises-without}
use Rattle.row_lemmas.proofs.Keyed.Put.{rises-put, list_all-put, differ-put}
use Rattle.row_lemmas.proofs.Keyed.Without.{list_all-without}
use Rattle.row_lemmas.proofs.Keyed.Count.{count_by-put_new, count_by-without_there}
use Rattle.row_lemmas.proofs.Tables.{pair_cmp_total}
use Rattle.tree_rows.specs.Premises.{finds_directory_and_name}
use Rattle.tree_rows.proofs.Listed.{is_entry}
use Rattle.row_steps.specs.Owed.{Owes, owes_links, owes_uses, times}

module _ (t : Tables) (p : Parameters) (rows : List Content) where
  abbrev after : Tables
  after = record t { contents = rows }

  -- other rows of entries, with what is owed for them
  pub Owes-contents : (links uses now then : List ℕ) → Owes t p links uses → IsTrue (rises by_entry rows)
      → IsTrue (differ (have_one_name t) rows)
      → ((x : ℕ) → listed_inode_count after x + times x now ≡ listed_inode_count t x + times x links)
      → ((x : ℕ) → listed_name_count after x + times x then ≡ listed_name_count t x + times x uses)
      → IsTrue (list_all (finds_directory_and_name t) rows) → IsTrue (list_all (λ (r : Content). nat_lt r.inode p.next_inode) rows)
      → Owes after p now then
  Owes-contents links uses now then o rise unlike same_links same_uses finds below = record {
    made = o.made;
    ordered = record {
      inodes = o.ordered.inodes;
      names = o.ordered.names;
      contents = rise;
      inode_blocks = o.ordered.inode_blocks;
      blocks = o.ordered.blocks;
      objects = o.ordered.objects;
      targets = o.ordered.targets;
      attrs = o.ordered.attrs;
      slots = o.ordered.slots;
    };
    unlike = unlike;
    inodes = list_all_weaker (owes_links t links) (owes_links after now) (λ r own. ap (λ n. r.refcount == n) (same_links r.id) ∙ own) t.inodes o.inodes;
    names =
        list_all_weaker (owes_uses t uses) (owes_uses after then)
        (λ r own. ap (λ n. r.refcount == n && nat_le 1 r.refcount) (same_uses r.id) ∙ own) t.names o.names;
    blocks = o.blocks;
    objects = o.objects;
    rows = record { entries = finds; inode_blocks = o.rows.inode_blocks; targets = o.rows.targets; attrs = o.rows.attrs; slots = o.rows.slots };
    distinct = record { digests = o.distinct.digests; objects = o.distinct.objects; sizes = o.distinct.sizes; within = o.distinct.within };
    sizes = record {
      inodes = o.sizes.inodes;
      inode_blocks = o.sizes.inode_blocks;
      slots = o.sizes.slots;
      spots = o.sizes.spots;
      numbers = o.sizes.numbers;
      lengths = o.sizes.lengths;
    };
    free = record { names = o.free.names; blocks = o.free.blocks; objects = o.free.objects };
    numbers = o.numbers;
    children = below;
  }

-- ---- words

-- the root is listed once whatever entries there are
by_root : (c : Content) (x n m a b : ℕ) → (c.inode == root) ≡ false → n + a ≡ m + b → (cond {A = ℕ} (c.inode == x) 1 0 ≡ 0 → a ≡ b)
    → cond (x == 1) 1 n + a ≡ cond (x == 1) 1 m + b
by_root c x n m a b not_root same none = by_case (x == 1) refl
  where
    by_case : (d : Bool) → (x == 1) ≡ d → cond d 1 n + a ≡ cond d 1 m + b
    by_case true is =
        let number : x ≡ root = eqb-true x 1 is in
        let other : cond {A = ℕ} (c.inode == x) 1 0 ≡ 0 = ap (λ y. cond {A = ℕ} (c.inode == y) 1 0) number ∙ ap (λ e. cond {A = ℕ} e 1 0) not_root in
        ap (λ y. 1 + y) (none other)
    by_case false is = same

pub bytes_turned : (a b : List ℕ) → is_eq (bytes_cmp a b) ≡ is_eq (bytes_cmp b a)
bytes_turned a b = ap is_eq (nat_list_cmp_total.antisymm a b) ∙ turned (bytes_cmp b a)
  where
    turned : (c : Ordering) → is_eq (ordering_reverse c) ≡ is_eq c
    turned Less = refl
    turned Equal = refl
    turned Greater = refl

-- the parts of equal pairs
-- ---- a put

module _ (t : Tables) (c : Content) (free : list_any (is_entry t c.parent (bytes_of_name t c.name_id)) t.contents ≡ false) where
  no_entry : IsTrue (list_all (λ x. not (is_entry t c.parent (bytes_of_name t c.name_id) x)) t.contents)
  no_entry = list_all_from_list_any (is_entry t c.parent (bytes_of_name t c.name_id)) t.contents (ap not free)

  -- no entry has the key where none has the name
  pub absent_entry : is_some (entry_at t c.parent c.name_id) ≡ false
  absent_entry =
      is_some-find_none (has_key by_entry (c.parent, c.name_id)) t.contents
      (list_all_weaker (λ x. not (is_entry t c.parent (bytes_of_name t c.name_id) x)) (λ x. not (has_key by_entry (c.parent, c.name_id) x)) other t.contents no_entry)
    where
      other : (x : Content) → IsTrue (not (is_entry t c.parent (bytes_of_name t c.name_id) x)) → IsTrue (not (has_key by_entry (c.parent, c.name_id) x))
      other x apart = by_case (has_key by_entry (c.parent, c.name_id) x) refl
        where
          by_case : (b : Bool) → has_key by_entry (c.parent, c.name_id) x ≡ b → IsTrue (not b)
          by_case true is =
              let parts = pair_parts (c.parent, c.name_id) (x.parent, x.name_id) is in
              let entry : IsTrue (is_entry t c.parent (bytes_of_name t c.name_id) x) =
              and_from (x.parent == c.parent) (is_eq (bytes_cmp (bytes_of_name t c.name_id) (bytes_of_name t x.name_id)))
              (eq-eqb x.parent c.parent (sym parts.0))
              (ap (λ k. is_eq (bytes_cmp (bytes_of_name t c.name_id) (bytes_of_name t k))) (sym parts.1) ∙ ap is_eq (tied_itself nat_list_cmp_total (bytes_of_name t c.name_id))) in
              let clash : false ≡ true = sym (ap not entry) ∙ apart in
              absurd (cc clash)
          by_case false is = refl

  unlike_after : IsTrue (differ (have_one_name t) t.contents) → IsTrue (differ (have_one_name t) (put by_entry c t.contents))
  unlike_after unlike =
      let ahead : (x : Content) → IsTrue (not (is_entry t c.parent (bytes_of_name t c.name_id) x)) → IsTrue (not (have_one_name t c x)) =
      λ x apart. ap (λ b. not (b && is_eq (bytes_cmp (bytes_of_name t c.name_id) (bytes_of_name t x.name_id)))) (eqb_comm c.parent x.parent) ∙ apart in
      let back : (x : Content) → IsTrue (not (is_entry t c.parent (bytes_of_name t c.name_id) x)) → IsTrue (not (have_one_name t x c)) =
      λ x apart. ap (λ b. not (x.parent == c.parent && b)) (bytes_turned (bytes_of_name t x.name_id) (bytes_of_name t c.name_id)) ∙ apart in
      differ-put by_entry (have_one_name t) c t.contents
      (list_all_weaker (λ x. not (is_entry t c.parent (bytes_of_name t c.name_id) x)) (λ x. not (have_one_name t c x)) ahead t.contents no_entry)
      (list_all_weaker (λ x. not (is_entry t c.parent (bytes_of_name t c.name_id) x)) (λ x. not (have_one_name t x c)) back t.contents no_entry)
      unlike

  counted : (f : Content → Bool) → count_by f (put by_entry c t.contents) ≡ cond (f c) 1 0 + count_by f t.contents
  counted f =
      let one : Content → ℕ = λ x. cond (f x) 1 0 in
      count_by-put_new by_entry f c t.contents absent_entry ∙ sum_by-cons one c t.contents

  -- an entry is the link and the use that were owed
  pub Owes-put_content : (p : Parameters) (links uses : List ℕ) → Owes t p (c.inode ∷ links) (c.name_id ∷ uses)
      → IsTrue (finds_directory_and_name t c) → (c.inode == root) ≡ false → IsTrue (nat_lt c.inode p.next_inode)
      → Owes (record t { contents = put by_entry c t.contents }) p links uses
  Owes-put_content p links uses o finds not_root number =
      Owes-contents t p (put by_entry c t.contents) (c.inode ∷ links) (c.name_id ∷ uses) links uses o
      (rises-put by_entry pair_cmp_total c t.contents o.ordered.contents) (unlike_after o.unlike) same_links same_uses
      (list_all-put by_entry (finds_directory_and_name t) c t.contents finds o.rows.entries)
      (list_all-put by_entry (λ (r : Content). nat_lt r.inode p.next_inode) c t.contents number o.children)
    where
      same_links : (x : ℕ) → listed_inode_count (record t { contents = put by_entry c t.contents }) x + times x links ≡ listed_inode_count t x + times x (c.inode ∷ links)
      same_links x =
          by_root c x (count_by (λ (r : Content). r.inode == x) (put by_entry c t.contents)) (count_by (λ (r : Content). r.inode == x) t.contents)
          (times x links) (times x (c.inode ∷ links)) not_root (omega (arith, counted (λ r. r.inode == x))) (λ none. omega (arith, none))

      same_uses : (x : ℕ) → listed_name_count (record t { contents = put by_entry c t.contents }) x + times x uses ≡ listed_name_count t x + times x (c.name_id ∷ uses)
      same_uses x = omega (arith, counted (λ r. r.name_id == x))

-- ---- a delete

list_any-filter : {R : Type 0} (q p : R → Bool) (rows : List R) → IsTrue (not (list_any p rows)) → IsTrue (not (list_any p (filter q rows)))
list_any-filter q p rows none =
    list_any_from_list_all p (filter q rows) (list_all-filter q (λ x. not (p x)) rows (list_all_from_list_any p rows none))

-- rows that differ still do when some are left out
pub differ-filter : {R : Type 0} (alike : R → R → Bool) (q : R → Bool) (rows : List R) → IsTrue (differ alike rows) → IsTrue (differ alike (filter q rows))
differ-filter alike q [] unlike = refl
differ-filter {R} alike q (x ∷ xs) unlike = by_case (differ-filter alike q xs parts.1) (q x)
  where
    parts : IsTrue (not (list_any (alike x) xs)) × IsTrue (differ alike xs)
    parts = and_parts (not (list_any (alike x) xs)) (differ alike xs) unlike

    by_case : IsTrue (differ alike (filter q xs)) → (b : Bool) → IsTrue (differ alike (cond b (x ∷ filter q xs) (filter q xs)))
    by_case rest true = and_from (not (list_any (alike x) (filter q xs))) (differ alike (filter q xs)) (list_any-filter q (alike x) xs parts.0) rest
    by_case rest false = rest

-- an entry that is deleted leaves its link and its use to be counted down
pub Owes-without_content : (t : Tables) (p : Parameters) (c : Content) (links uses : List ℕ) → Owes t p links uses
    → entry_at t c.parent c.name_id ≡ Some c → (c.inode == root) ≡ false
    → Owes (record t { contents = without by_entry (c.parent, c.name_id) t.contents }) p (c.inode ∷ links) (c.name_id ∷ uses)
Owes-without_content t p c links uses o there not_root =
    Owes-contents t p rows links uses (c.inode ∷ links) (c.name_id ∷ uses) o
    (rises-without by_entry (c.parent, c.name_id) t.contents o.ordered.contents)
    (differ-filter (have_one_name t) (λ r. not (has_key by_entry (c.parent, c.name_id) r)) t.contents o.unlike)
    same_links same_uses
    (list_all-without by_entry (finds_directory_and_name t) (c.parent, c.name_id) t.contents o.rows.entries)
    (list_all-without by_entry (λ (r : Content). nat_lt r.inode p.next_inode) (c.parent, c.name_id) t.contents o.children)
  where
    rows : List Content
    rows = without by_entry (c.parent, c.name_id) t.contents

    counted : (f : Content → Bool) → cond (f c) 1 0 + count_by f (without by_entry (c.parent, c.name_id) t.contents) ≡ count_by f t.contents
    counted f = count_by-without_there by_entry pair_cmp_total f (c.parent, c.name_id) c t.contents o.ordered.contents there

    same_links : (x : ℕ) → listed_inode_count (record t { contents = without by_entry (c.parent, c.name_id) t.contents }) x + times x (c.inode ∷ links)
        ≡ listed_inode_count t x + times x links
    same_links x =
        by_root c x (count_by (λ (r : Content). r.inode == x) (without by_entry (c.parent, c.name_id) t.contents)) (count_by (λ (r : Content). r.inode == x) t.contents)
        (times x (c.inode ∷ links)) (times x links) not_root (omega (arith, counted (λ r. r.inode == x))) (λ none. omega (arith, none))

    same_uses : (x : ℕ) → listed_name_count (record t { contents = without by_entry (c.parent, c.name_id) t.contents }) x + times x (c.name_id ∷ uses)
        ≡ listed_name_count t x + times x uses
    same_uses x = omega (arith, counted (λ r. r.name_id == x))
