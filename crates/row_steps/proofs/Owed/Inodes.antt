-- Changes of the table of inodes: what rows find of it, and what is owed.
use Rattle.std.proofs.Common.{◌≡◌, ℕ, ◌+◌, List, ◌∷◌, Bool, true, false, cond, Option, None, Some, refl, sym, ap, ◌∙◌, subst, arith, eqb-true, eq-eqb}
use Rattle.std.specs.Prelude.{IsTrue, not, ◌&&◌, ◌||◌, ◌==◌, ◌*◌, is_some, nat_lt}
use Rattle.std.specs.List.{list_all}
use Rattle.std.specs.Cmp.{nat_cmp_total}
use Rattle.std.specs.FinMap.{nat_cmp-IsAntisymmetric}
use Rattle.std.specs.Ordering.{nat_cmp, is_eq}
use Rattle.std.proofs.lemmas.Bool.{and_from, and_parts}
use Rattle.s3_base.specs.declared.node_kind.Kind.{Kind}
use Rattle.s3_rows.specs.Rows.{Inode, Content, InodeBlock, Target, Attr, Slot, Parameters}
use Rattle.s3_rows.specs.Keyed.{has_key, rises, put, without, row_at}
use Rattle.s3_rows.specs.Tables.{Tables, by_inode}
use Rattle.s3_rows.specs.Selections.{inode_at, name_at, block_at, target_at}
use Rattle.s3_rows.specs.Counts.{listed_inode_count}
use Rattle.s3_rows.specs.Validity.{any_kind, finds_of_attr, has_inode, is_directory, is_in_file, is_link}
use Rattle.row_lemmas.proofs.Tests.{eqb_comm, equal_from_is_eq, false_from_not, find_passes, find_passes_all, is_eq-nat_cmp, list_all-filter_same, list_all_true, list_all_weaker, list_all_weaker_both}
use Rattle.row_lemmas.proofs.Keyed.Rises.{rises-without}
use Rattle.row_lemmas.proofs.Keyed.Put.{rises-put, row_at-put, list_all-put, list_all-put_else}
use Rattle.row_lemmas.proofs.Keyed.Without.{list_all-without, row_at-without_other}
use Rattle.tree_rows.specs.Premises.{FindsRows, FitsSizes, finds_block, finds_directory_and_name, fits_kind, fits_size}
use Rattle.row_steps.specs.Owed.{HasNothing, Owes, owes_links, times}

-- what is told of the kind and the size of a row, if there is one
abbrev pub tells : (Kind → ℕ → Bool) → Option Inode → Bool
tells test found = elim found [ Some r ↦ test r.kind r.size | None ↦ false ]

-- an inode with a row is below the number that is above all
pub below_from_there : (t : Tables) (next : ℕ) → IsTrue (list_all (λ (r : Inode). nat_lt r.id next) t.inodes) → (x : ℕ)
    → (test : Kind → ℕ → Bool) → IsTrue (tells test (inode_at t x)) → IsTrue (nat_lt x next)
below_from_there t next numbers x test has = by_row (inode_at t x) refl has
  where
    by_row : (found : Option Inode) → inode_at t x ≡ found → IsTrue (tells test found) → IsTrue (nat_lt x next)
    by_row None is there = absurd (cc there)
    by_row (Some r) is there =
        let same : x ≡ r.id = nat_cmp-IsAntisymmetric x r.id (equal_from_is_eq (nat_cmp x r.id) (find_passes (has_key by_inode x) t.inodes r is)) in
        subst (λ n. IsTrue (nat_lt n next)) (sym same)
        (find_passes_all (has_key by_inode x) (λ (y : Inode). nat_lt y.id next) t.inodes r numbers is)

-- every number of an inode that a row names passes
pub record NamesOnly (t : Tables) (ok : ℕ → Bool) : Type 0 where
  pub entries : IsTrue (list_all (λ (r : Content). ok r.parent) t.contents)
  pub inode_blocks : IsTrue (list_all (λ (r : InodeBlock). ok r.inode) t.inode_blocks)
  pub targets : IsTrue (list_all (λ (r : Target). ok r.inode) t.targets)
  pub attrs : IsTrue (list_all (λ (r : Attr). ok r.inode) t.attrs)
  pub slots : IsTrue (list_all (λ (r : Slot). ok r.inode) t.slots)

pub any_number : (t : Tables) → NamesOnly t (λ x. true)
any_number t = record {
  entries = list_all_true t.contents;
  inode_blocks = list_all_true t.inode_blocks;
  targets = list_all_true t.targets;
  attrs = list_all_true t.attrs;
  slots = list_all_true t.slots;
}

-- what is told of numbers that pass is told after the change
abbrev pub Keeps : Tables → List Inode → (ℕ → Bool) → Type 0
Keeps t rows ok = (test : Kind → ℕ → Bool) (x : ℕ) → IsTrue (ok x) → IsTrue (tells test (inode_at t x)) → IsTrue (tells test (row_at by_inode x rows))

no_link_from_tells : (found : Option Inode) → IsTrue (tells (λ kind size. not (is_link kind)) found)
    → IsTrue (not (elim found [ Some r ↦ is_link r.kind | None ↦ false ]))
no_link_from_tells None is = refl
no_link_from_tells (Some r) is = is

tells_no_link : (test : Kind → ℕ → Bool) (found : Option Inode) → IsTrue (tells test found)
    → IsTrue (not (elim found [ Some r ↦ is_link r.kind | None ↦ false ])) → IsTrue (tells (λ kind size. not (is_link kind)) found)
tells_no_link test None told is = absurd (cc told)
tells_no_link test (Some r) told is = is

module _ (t : Tables) (p : Parameters) (rows : List Inode) (ok : ℕ → Bool) (only : NamesOnly t ok) (keeps : Keeps t rows ok) where
  abbrev after : Tables
  after = record t { inodes = rows }

  -- a number of a file's row that is no symbolic link
  no_link : (x blockno : ℕ) → IsTrue (ok x) → IsTrue (is_in_file t p x blockno) → IsTrue (not (has_inode is_link t x)) → IsTrue (not (has_inode is_link after x))
  no_link x blockno good inside own =
      no_link_from_tells (inode_at after x)
      (keeps (λ kind size. not (is_link kind)) x good
      (tells_no_link (λ kind size. nat_lt (blockno * p.block_size) size) (inode_at t x) inside own))

  inside_after : (x blockno : ℕ) → IsTrue (ok x) → IsTrue (is_in_file t p x blockno) → IsTrue (is_in_file after p x blockno)
  inside_after x blockno good inside = keeps (λ kind size. nat_lt (blockno * p.block_size) size) x good inside

  FindsRows_after : FindsRows t → FitsSizes t p → FindsRows after
  FindsRows_after finds sizes = record {
    entries =
        list_all_weaker_both (λ (r : Content). ok r.parent) (finds_directory_and_name t) (finds_directory_and_name after)
        (λ r good own.
        let parts = and_parts (has_inode is_directory t r.parent) (is_some (name_at t r.name_id)) own in
        and_from (has_inode is_directory after r.parent) (is_some (name_at t r.name_id))
        (keeps (λ kind size. is_directory kind) r.parent good parts.0) parts.1)
        t.contents only.entries finds.entries;
    inode_blocks =
        list_all_weaker_both (λ (r : InodeBlock). ok r.inode && is_in_file t p r.inode r.blockno) (finds_block t) (finds_block after)
        (λ r good own.
        let parts = and_parts (not (has_inode is_link t r.inode)) (is_some (block_at t r.block)) own in
        let where_it_is = and_parts (ok r.inode) (is_in_file t p r.inode r.blockno) good in
        and_from (not (has_inode is_link after r.inode)) (is_some (block_at t r.block))
        (no_link r.inode r.blockno where_it_is.0 where_it_is.1 parts.0) parts.1)
        t.inode_blocks
        (list_all_weaker_both (λ (r : InodeBlock). ok r.inode) (λ r. is_in_file t p r.inode r.blockno) (λ r. ok r.inode && is_in_file t p r.inode r.blockno)
        (λ r good own. and_from (ok r.inode) (is_in_file t p r.inode r.blockno) good own) t.inode_blocks only.inode_blocks sizes.inode_blocks)
        finds.inode_blocks;
    targets =
        list_all_weaker_both (λ (r : Target). ok r.inode) (λ r. has_inode is_link t r.inode) (λ r. has_inode is_link after r.inode)
        (λ r good own. keeps (λ kind size. is_link kind) r.inode good own) t.targets only.targets finds.targets;
    attrs =
        list_all_weaker_both (λ (r : Attr). ok r.inode) (finds_of_attr t) (finds_of_attr after)
        (λ r good own.
        let parts = and_parts (has_inode any_kind t r.inode) (is_some (name_at t r.name_id)) own in
        and_from (has_inode any_kind after r.inode) (is_some (name_at t r.name_id))
        (keeps (λ kind size. any_kind kind) r.inode good parts.0) parts.1)
        t.attrs only.attrs finds.attrs;
    slots =
        list_all_weaker_both (λ (r : Slot). ok r.inode && is_in_file t p r.inode r.blockno) (λ r. not (has_inode is_link t r.inode))
        (λ r. not (has_inode is_link after r.inode))
        (λ r good own.
        let where_it_is = and_parts (ok r.inode) (is_in_file t p r.inode r.blockno) good in
        no_link r.inode r.blockno where_it_is.0 where_it_is.1 own)
        t.slots
        (list_all_weaker_both (λ (r : Slot). ok r.inode) (λ r. is_in_file t p r.inode r.blockno) (λ r. ok r.inode && is_in_file t p r.inode r.blockno)
        (λ r good own. and_from (ok r.inode) (is_in_file t p r.inode r.blockno) good own) t.slots only.slots sizes.slots)
        finds.slots;
  }

  FitsSizes_after : FitsSizes t p → IsTrue (list_all (fits_kind t) rows) → FitsSizes after p
  FitsSizes_after sizes fits = record {
    inodes = fits;
    inode_blocks =
        list_all_weaker_both (λ (r : InodeBlock). ok r.inode) (λ r. is_in_file t p r.inode r.blockno) (λ r. is_in_file after p r.inode r.blockno)
        (λ r good own. inside_after r.inode r.blockno good own) t.inode_blocks only.inode_blocks sizes.inode_blocks;
    slots =
        list_all_weaker_both (λ (r : Slot). ok r.inode) (λ r. is_in_file t p r.inode r.blockno) (λ r. is_in_file after p r.inode r.blockno)
        (λ r good own. inside_after r.inode r.blockno good own) t.slots only.slots sizes.slots;
    spots = sizes.spots;
    numbers = sizes.numbers;
    lengths = sizes.lengths;
  }

  -- other rows of inodes, each with its count, its size and its number
  pub Owes-inodes : (links uses now : List ℕ) → Owes t p links uses → IsTrue (rises by_inode rows)
      → IsTrue (list_all (owes_links t now) rows) → IsTrue (list_all (fits_kind t) rows)
      → IsTrue (list_all (λ (r : Inode). nat_lt r.id p.next_inode) rows) → Owes after p now uses
  Owes-inodes links uses now o rise counts fits numbers = record {
    made = o.made;
    ordered = record {
      inodes = rise;
      names = o.ordered.names;
      contents = o.ordered.contents;
      inode_blocks = o.ordered.inode_blocks;
      blocks = o.ordered.blocks;
      objects = o.ordered.objects;
      targets = o.ordered.targets;
      attrs = o.ordered.attrs;
      slots = o.ordered.slots;
    };
    unlike = o.unlike;
    inodes = counts;
    names = o.names;
    blocks = o.blocks;
    objects = o.objects;
    rows = FindsRows_after o.rows o.sizes;
    distinct = record { digests = o.distinct.digests; objects = o.distinct.objects; sizes = o.distinct.sizes; within = o.distinct.within };
    sizes = FitsSizes_after o.sizes fits;
    free = record { names = o.free.names; blocks = o.free.blocks; objects = o.free.objects };
    numbers = numbers;
    children = o.children;
  }

-- ---- a put

-- a put leaves the debts of others
module _ (t : Tables) (p : Parameters) (new : Inode) (links uses now : List ℕ) (o : Owes t p links uses) where
  links_after : IsTrue (owes_links t now new) → ((x : ℕ) → (new.id == x) ≡ false → times x now ≡ times x links)
      → IsTrue (list_all (owes_links t now) (put by_inode new t.inodes))
  links_after own others =
      list_all-put_else by_inode nat_cmp_total (owes_links t now) new t.inodes o.ordered.inodes own
      (list_all_weaker (owes_links t links) (λ r. has_key by_inode new.id r || owes_links t now r) each t.inodes o.inodes)
    where
      each : (r : Inode) → IsTrue (owes_links t links r) → IsTrue (has_key by_inode new.id r || owes_links t now r)
      each r owed = by_case (has_key by_inode new.id r) refl
        where
          by_case : (b : Bool) → has_key by_inode new.id r ≡ b → IsTrue (b || owes_links t now r)
          by_case true is = refl
          by_case false is = ap (λ n. r.refcount == listed_inode_count t r.id + n) (others r.id (sym (is_eq-nat_cmp new.id r.id) ∙ is)) ∙ owed

  pub Owes-put_inode : Keeps t (put by_inode new t.inodes) (λ x. true) → IsTrue (owes_links t now new)
      → ((x : ℕ) → (new.id == x) ≡ false → times x now ≡ times x links) → IsTrue (fits_kind t new)
      → IsTrue (nat_lt new.id p.next_inode) → Owes (record t { inodes = put by_inode new t.inodes }) p now uses
  Owes-put_inode keeps own others fits number =
      Owes-inodes t p (put by_inode new t.inodes) (λ x. true) (any_number t) keeps links uses now o
      (rises-put by_inode nat_cmp_total new t.inodes o.ordered.inodes) (links_after own others)
      (list_all-put by_inode (fits_kind t) new t.inodes fits o.sizes.inodes)
      (list_all-put by_inode (λ (r : Inode). nat_lt r.id p.next_inode) new t.inodes number o.numbers)

-- the numbers of one key
pub one_number : (a b : ℕ) → IsTrue (is_eq (nat_cmp a b)) → a ≡ b
one_number a b same = nat_cmp-IsAntisymmetric a b (equal_from_is_eq (nat_cmp a b) same)

-- where no row was, all that is found is found after
pub Keeps-put_new : (t : Tables) (new : Inode) → inode_at t new.id ≡ None → Keeps t (put by_inode new t.inodes) (λ x. true)
Keeps-put_new t new none test x good told =
    subst (λ (found : Option Inode). IsTrue (tells test found)) (sym (row_at-put by_inode nat_cmp_total x new t.inodes)) (by_case (has_key by_inode x new) refl)
  where
    by_case : (b : Bool) → has_key by_inode x new ≡ b → IsTrue (tells test (cond b (Some new) (inode_at t x)))
    by_case true is =
        let clash : IsTrue (tells test None) = subst (λ (found : Option Inode). IsTrue (tells test found)) (ap (inode_at t) (one_number x new.id is) ∙ none) told in
        absurd (cc clash)
    by_case false is = told

-- and so where the row was of the same kind and size
pub Keeps-put_there : (t : Tables) (r new : Inode) → inode_at t new.id ≡ Some r → new.kind ≡ r.kind → new.size ≡ r.size
    → Keeps t (put by_inode new t.inodes) (λ x. true)
Keeps-put_there t r new there kind size test x good told =
    subst (λ (found : Option Inode). IsTrue (tells test found)) (sym (row_at-put by_inode nat_cmp_total x new t.inodes)) (by_case (has_key by_inode x new) refl)
  where
    by_case : (b : Bool) → has_key by_inode x new ≡ b → IsTrue (tells test (cond b (Some new) (inode_at t x)))
    by_case true is =
        let own : IsTrue (tells test (Some r)) = subst (λ (found : Option Inode). IsTrue (tells test found)) (ap (inode_at t) (one_number x new.id is) ∙ there) told in
        (λ i. test (kind i) (size i)) ∙ own
    by_case false is = told

-- what is owed to others than the first
pub times_other : (id x : ℕ) (ids : List ℕ) → (id == x) ≡ false → times x (id ∷ ids) ≡ times x ids
times_other id x ids other =
    let none : cond {A = ℕ} (id == x) 1 0 ≡ 0 = ap (λ b. cond {A = ℕ} b 1 0) other in
    omega (arith, none)

pub times_first : (id : ℕ) (ids : List ℕ) → times id (id ∷ ids) ≡ 1 + times id ids
times_first id ids = ap (λ b. cond {A = ℕ} b 1 0 + times id ids) (eq-eqb id id refl)

-- a new inode owes the link that it counts
pub Owes-put_inode_new : (t : Tables) (p : Parameters) (new : Inode) (links uses : List ℕ) → Owes t p links uses
    → inode_at t new.id ≡ None → listed_inode_count t new.id + times new.id links ≡ 0 → new.refcount ≡ 1
    → IsTrue (fits_kind t new) → IsTrue (nat_lt new.id p.next_inode)
    → Owes (record t { inodes = put by_inode new t.inodes }) p (new.id ∷ links) uses
Owes-put_inode_new t p new links uses o none unlisted once fits number =
    Owes-put_inode t p new links uses (new.id ∷ links) o (Keeps-put_new t new none)
    (eq-eqb new.refcount (listed_inode_count t new.id + times new.id (new.id ∷ links)) (omega (arith, unlisted, once, times_first new.id links)))
    (λ x other. times_other new.id x links other) fits number

-- a row of the same kind, size and count
pub Owes-put_inode_there : (t : Tables) (p : Parameters) (r new : Inode) (links uses now : List ℕ) → Owes t p links uses
    → inode_at t new.id ≡ Some r → new.kind ≡ r.kind → new.size ≡ r.size
    → new.refcount + times new.id links ≡ r.refcount + times new.id now
    → ((x : ℕ) → (new.id == x) ≡ false → times x now ≡ times x links)
    → Owes (record t { inodes = put by_inode new t.inodes }) p now uses
Owes-put_inode_there t p r new links uses now o there kind size count others =
    let id : r.id ≡ new.id = sym (one_number new.id r.id (find_passes (has_key by_inode new.id) t.inodes r there)) in
    let owed : IsTrue (owes_links t links r) = find_passes_all (has_key by_inode new.id) (owes_links t links) t.inodes r o.inodes there in
    let owed_here : r.refcount ≡ listed_inode_count t new.id + times new.id links =
    eqb-true r.refcount (listed_inode_count t r.id + times r.id links) owed ∙ ap (λ x. listed_inode_count t x + times x links) id in
    Owes-put_inode t p new links uses now o (Keeps-put_there t r new there kind size)
    (eq-eqb new.refcount (listed_inode_count t new.id + times new.id now) (omega (arith, owed_here, count)))
    others
    ((λ i. fits_size (kind i) (target_at t (sym id i)) (size i)) ∙ find_passes_all (has_key by_inode new.id) (fits_kind t) t.inodes r o.sizes.inodes there)
    (ap (λ n. nat_lt n p.next_inode) (sym id) ∙ find_passes_all (has_key by_inode new.id) (λ (x : Inode). nat_lt x.id p.next_inode) t.inodes r o.numbers there)

pub Owes-put_inode_same : (t : Tables) (p : Parameters) (r new : Inode) (links uses : List ℕ) → Owes t p links uses
    → inode_at t new.id ≡ Some r → new.kind ≡ r.kind → new.size ≡ r.size → new.refcount ≡ r.refcount
    → Owes (record t { inodes = put by_inode new t.inodes }) p links uses
Owes-put_inode_same t p r new links uses o there kind size count =
    Owes-put_inode_there t p r new links uses links o there kind size (omega (arith, count)) (λ x other. refl)

-- one link more is counted, and owed
pub Owes-put_inode_more : (t : Tables) (p : Parameters) (r new : Inode) (links uses : List ℕ) → Owes t p links uses
    → inode_at t new.id ≡ Some r → new.kind ≡ r.kind → new.size ≡ r.size → new.refcount ≡ r.refcount + 1
    → Owes (record t { inodes = put by_inode new t.inodes }) p (new.id ∷ links) uses
Owes-put_inode_more t p r new links uses o there kind size count =
    Owes-put_inode_there t p r new links uses (new.id ∷ links) o there kind size (omega (arith, count, times_first new.id links))
    (λ x other. times_other new.id x links other)

-- one link less is counted, and no more owed
pub Owes-put_inode_less : (t : Tables) (p : Parameters) (r new : Inode) (links uses : List ℕ) → Owes t p (new.id ∷ links) uses
    → inode_at t new.id ≡ Some r → new.kind ≡ r.kind → new.size ≡ r.size → new.refcount + 1 ≡ r.refcount
    → Owes (record t { inodes = put by_inode new t.inodes }) p links uses
Owes-put_inode_less t p r new links uses o there kind size count =
    Owes-put_inode_there t p r new (new.id ∷ links) uses links o there kind size (omega (arith, count, times_first new.id links))
    (λ x other. sym (times_other new.id x links other))

-- ---- a delete

-- whatever was owed to it
pub Owes-without_inode_any : (t : Tables) (p : Parameters) (id : ℕ) (links uses now : List ℕ) → Owes t p links uses → HasNothing t id
    → ((x : ℕ) → (id == x) ≡ false → times x now ≡ times x links) → Owes (record t { inodes = without by_inode id t.inodes }) p now uses
Owes-without_inode_any t p id links uses now o nothing others =
    Owes-inodes t p (without by_inode id t.inodes) (λ x. not (x == id)) only keeps links uses now o
    (rises-without by_inode id t.inodes o.ordered.inodes)
    (list_all_weaker_both (λ r. not (has_key by_inode id r)) (owes_links t links) (owes_links t now)
    (λ r apart owed. ap (λ n. r.refcount == listed_inode_count t r.id + n)
    (others r.id (sym (is_eq-nat_cmp id r.id) ∙ false_from_not (has_key by_inode id r) apart)) ∙ owed)
    (without by_inode id t.inodes) (list_all-filter_same (λ r. not (has_key by_inode id r)) t.inodes)
    (list_all-without by_inode (owes_links t links) id t.inodes o.inodes))
    (list_all-without by_inode (fits_kind t) id t.inodes o.sizes.inodes)
    (list_all-without by_inode (λ (r : Inode). nat_lt r.id p.next_inode) id t.inodes o.numbers)
  where
    only : NamesOnly t (λ x. not (x == id))
    only = record { entries = nothing.entries; inode_blocks = nothing.inode_blocks; targets = nothing.targets; attrs = nothing.attrs; slots = nothing.slots }

    keeps : Keeps t (without by_inode id t.inodes) (λ x. not (x == id))
    keeps test x good told =
        ap (tells test) (row_at-without_other by_inode nat_cmp_total id x t.inodes (is_eq-nat_cmp id x ∙ eqb_comm id x ∙ false_from_not (x == id) good)) ∙ told

-- it counted only a link that it owed
pub Owes-without_inode : (t : Tables) (p : Parameters) (id : ℕ) (links uses : List ℕ) → Owes t p (id ∷ links) uses
    → HasNothing t id → Owes (record t { inodes = without by_inode id t.inodes }) p links uses
Owes-without_inode t p id links uses o nothing =
    Owes-without_inode_any t p id (id ∷ links) uses links o nothing (λ x other. sym (times_other id x links other))
