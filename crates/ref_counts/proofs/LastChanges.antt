-- What is read of tables after changes, by the last changes.
use Rattle.std.proofs.Common.{◌≡◌, ℕ, List, [], ◌∷◌, Bool, true, false, cond, Option, None, Some, refl, sym, ap, ◌∙◌}
use Rattle.std.specs.Prelude.{◌==◌, ◌&&◌, IsTrue, not, option_map, unwrap_or}
use Rattle.std.specs.Option.{option_or, option_and_then}
use Rattle.std.specs.List.{list_all}
use Rattle.std.specs.declared.cmp.Ordering.{Ordering}
use Rattle.std.specs.declared.cmp.Ordering.TheVariants.{Less, Equal, Greater}
use Rattle.std.specs.Ordering.{is_eq, nat_cmp, ordering_then}
use Rattle.std.specs.Cmp.{IsTotalOrder, nat_cmp_total}
use Rattle.s3_rows.specs.declared.change.Change.{Change}
use Rattle.s3_rows.specs.declared.change.Change.TheVariants as changes
use Rattle.s3_rows.specs.declared.row_id.RowId.{RowId}
use Rattle.s3_rows.specs.declared.row_id.RowId.TheVariants as ids
use Rattle.s3_rows.specs.Rows.{Name}
use Rattle.s3_rows.specs.Keyed.{Order, has_key, pair_cmp, put, row_at, without}
use Rattle.s3_rows.specs.Tables.{Tables, IsOrdered, by_inode, by_name, by_spot, by_block, by_object}
use Rattle.s3_rows.specs.Batches.{after_change, tables_after}
use Rattle.s3_rows.specs.Latest.{about, last_change, id_named, last_named}
use Rattle.s3_rows.specs.Selections.{inode_at, name_at, name_of_bytes, inode_block_at, block_at, object_at}
use Rattle.row_lemmas.proofs.Tests.{eqb_comm, is_eq-nat_cmp, false_from_not, find_passes, list_all_from_find}
use Rattle.row_lemmas.proofs.Tables.{IsOrdered-after_change, IsOrdered-tables_after, pair_cmp_total}
use Rattle.row_lemmas.proofs.Keyed.Put.{row_at-put}
use Rattle.row_lemmas.proofs.Keyed.RowAt.{row_at_from_find, row_at_passes}
use Rattle.row_lemmas.proofs.Keyed.Without.{row_at-without}
use Rattle.ref_counts.specs.Names.{StaysUnique}
use Rattle.ref_counts.specs.Pending.{inode_put, name_put, link_put, block_put, object_put, params_set, with_bytes}
use Rattle.ref_counts.proofs.Named.{has_bytes, put_found, delete_found, unique_now}
use Rattle.ref_counts.proofs.Overlay.{kept}

-- ---- last_change

unwrap_or-option_or : {A : Type 0} (a b : Option A) (d : A) → unwrap_or a (unwrap_or b d) ≡ unwrap_or (option_or a b) d
unwrap_or-option_or None b d = refl
unwrap_or-option_or (Some x) b d = refl

option_map-option_or : {A B : Type 0} (f : A → B) (a b : Option A)
    → option_or (option_map f a) (option_map f b) ≡ option_map f (option_or a b)
option_map-option_or f None b = refl
option_map-option_or f (Some x) b = refl

-- Where a change of a row says what is read of the tables after it, and every other leaves that, the last change of the
-- row says what is read after all.
module _ {A : Type 0} (read : Tables → A) (id : RowId) (says : Change → A)
    (each : (c : Change) (t : Tables) → read (after_change c t) ≡ unwrap_or (option_map says (about id c)) (read t)) where
  pub read-tables_after : (cs : List Change) (t : Tables)
      → read (tables_after cs t) ≡ unwrap_or (option_map says (last_change id cs)) (read t)
  read-tables_after [] t = refl
  read-tables_after (c ∷ cs) t =
      read-tables_after cs (after_change c t)
      ∙ ap (unwrap_or (option_map says (last_change id cs))) (each c t)
      ∙ unwrap_or-option_or (option_map says (last_change id cs)) (option_map says (about id c)) (read t)
      ∙ ap (λ a. unwrap_or a (read t)) (option_map-option_or says (last_change id cs) (about id c))

  -- what is read after changes of which one is the last of the row, and after changes of which none is about it
  pub read-said : (cs : List Change) (t : Tables) (c : Change)
      → last_change id cs ≡ Some c → says c ≡ read (tables_after cs t)
  read-said cs t c is = sym (read-tables_after cs t ∙ ap (λ last. unwrap_or (option_map says last) (read t)) is)

  pub read-kept : (cs : List Change) (t : Tables) → last_change id cs ≡ None → read t ≡ read (tables_after cs t)
  read-kept cs t is = sym (read-tables_after cs t ∙ ap (λ last. unwrap_or (option_map says last) (read t)) is)

-- ---- rows of any table

by_cond : {A : Type 0} (says : Change → A) (c : Change) (b : Bool) (d : A)
    → cond b (says c) d ≡ unwrap_or (option_map says (cond b (Some c) None)) d
by_cond says c true d = refl
by_cond says c false d = refl

-- A put of a row and a delete of a key say what is found of the key, where they are about its row; `same` is their test.
module _ {K R : Type 0} (o : Order K R) (total : IsTotalOrder o.compare)
    (says : Change → Option R) (c : Change) (same : Bool) where
  pub row_at-put_said : (k : K) (r : R) (rows : List R) → has_key o k r ≡ same → says c ≡ Some r
      → row_at o k (put o r rows) ≡ unwrap_or (option_map says (cond same (Some c) None)) (row_at o k rows)
  row_at-put_said k r rows tests put_is =
      row_at-put o total k r rows
      ∙ (λ i. cond (tests i) (sym put_is i) (row_at o k rows))
      ∙ by_cond says c same (row_at o k rows)

  pub row_at-without_said : (j k : K) (rows : List R) → is_eq (o.compare j k) ≡ same → says c ≡ None
      → row_at o k (without o j rows) ≡ unwrap_or (option_map says (cond same (Some c) None)) (row_at o k rows)
  row_at-without_said j k rows tests gone =
      row_at-without o total j k rows
      ∙ (λ i. cond (tests i) (sym gone i) (row_at o k rows))
      ∙ by_cond says c same (row_at o k rows)

-- ---- inodes by their ids

inode-after_change : (id : ℕ) (c : Change) (t : Tables) → inode_at (after_change c t) id ≡ unwrap_or (option_map inode_put (about (ids.Inode id) c)) (inode_at t id)
inode-after_change id (changes.PutInode r) t =
    row_at-put_said by_inode nat_cmp_total inode_put (changes.PutInode r) (r.id == id) id r t.inodes (is_eq-nat_cmp id r.id ∙ eqb_comm id r.id) refl
inode-after_change id (changes.DeleteInode x) t =
    row_at-without_said by_inode nat_cmp_total inode_put (changes.DeleteInode x) (x == id) x id t.inodes (is_eq-nat_cmp x id) refl
inode-after_change id _ t = refl

-- the row of an inode is what its last change puts
pub inode-said : (id : ℕ) (cs : List Change) (t : Tables) (c : Change) → last_change (ids.Inode id) cs ≡ Some c → inode_put c ≡ inode_at (tables_after cs t) id
inode-said id = read-said (λ t. inode_at t id) (ids.Inode id) inode_put (inode-after_change id)

pub inode-kept : (id : ℕ) (cs : List Change) (t : Tables) → last_change (ids.Inode id) cs ≡ None → inode_at t id ≡ inode_at (tables_after cs t) id
inode-kept id = read-kept (λ t. inode_at t id) (ids.Inode id) inode_put (inode-after_change id)

-- ---- names by their ids

name_at-after_change : (id : ℕ) (c : Change) (t : Tables)
    → name_at (after_change c t) id ≡ unwrap_or (option_map name_put (about (ids.Name id) c)) (name_at t id)
name_at-after_change id (changes.PutName r) t =
    row_at-put_said by_name nat_cmp_total name_put (changes.PutName r) (r.id == id) id r t.names
    (is_eq-nat_cmp id r.id ∙ eqb_comm id r.id) refl
name_at-after_change id (changes.DeleteName x) t =
    row_at-without_said by_name nat_cmp_total name_put (changes.DeleteName x) (x == id) x id t.names
    (is_eq-nat_cmp x id) refl
name_at-after_change id _ t = refl

-- the row of a name is what its last change puts
pub name_at-said : (id : ℕ) (cs : List Change) (t : Tables) (c : Change)
    → last_change (ids.Name id) cs ≡ Some c → name_put c ≡ name_at (tables_after cs t) id
name_at-said id = read-said (λ t. name_at t id) (ids.Name id) name_put (name_at-after_change id)

pub name_at-kept : (id : ℕ) (cs : List Change) (t : Tables)
    → last_change (ids.Name id) cs ≡ None → name_at t id ≡ name_at (tables_after cs t) id
name_at-kept id = read-kept (λ t. name_at t id) (ids.Name id) name_put (name_at-after_change id)

-- ---- links, blocks and objects by their keys

is_eq-pair_cmp : (x y : ℕ × ℕ) → is_eq (pair_cmp x y) ≡ (x.0 == y.0 && x.1 == y.1)
is_eq-pair_cmp x y = by_case (nat_cmp x.0 y.0) (is_eq-nat_cmp x.0 y.0)
  where
    by_case : (c : Ordering) → is_eq c ≡ (x.0 == y.0) → is_eq (ordering_then c (nat_cmp x.1 y.1)) ≡ (x.0 == y.0 && x.1 == y.1)
    by_case Less is = ap (λ b. b && x.1 == y.1) is
    by_case Equal is = is_eq-nat_cmp x.1 y.1 ∙ ap (λ b. b && x.1 == y.1) is
    by_case Greater is = ap (λ b. b && x.1 == y.1) is

both_back : (a b c d : ℕ) → (a == c && b == d) ≡ (c == a && d == b)
both_back a b c d = (λ i. eqb_comm a c i && eqb_comm b d i)

link-after_change : (inode blockno : ℕ) (c : Change) (t : Tables) → inode_block_at (after_change c t) inode blockno ≡ unwrap_or (option_map link_put (about (ids.InodeBlock inode blockno) c)) (inode_block_at t inode blockno)
link-after_change inode blockno (changes.PutInodeBlock r) t =
    row_at-put_said by_spot pair_cmp_total link_put (changes.PutInodeBlock r) (r.inode == inode && r.blockno == blockno) (inode, blockno) r t.inode_blocks
    (is_eq-pair_cmp (inode, blockno) (r.inode, r.blockno) ∙ both_back inode blockno r.inode r.blockno) refl
link-after_change inode blockno (changes.DeleteInodeBlock x n) t =
    row_at-without_said by_spot pair_cmp_total link_put (changes.DeleteInodeBlock x n) (x == inode && n == blockno) (x, n) (inode, blockno) t.inode_blocks
    (is_eq-pair_cmp (x, n) (inode, blockno)) refl
link-after_change inode blockno _ t = refl

block-after_change : (id : ℕ) (c : Change) (t : Tables) → block_at (after_change c t) id ≡ unwrap_or (option_map block_put (about (ids.Block id) c)) (block_at t id)
block-after_change id (changes.PutBlock r) t =
    row_at-put_said by_block nat_cmp_total block_put (changes.PutBlock r) (r.id == id) id r t.blocks (is_eq-nat_cmp id r.id ∙ eqb_comm id r.id) refl
block-after_change id (changes.DeleteBlock x) t = row_at-without_said by_block nat_cmp_total block_put (changes.DeleteBlock x) (x == id) x id t.blocks (is_eq-nat_cmp x id) refl
block-after_change id _ t = refl

object-after_change : (id : ℕ) (c : Change) (t : Tables) → object_at (after_change c t) id ≡ unwrap_or (option_map object_put (about (ids.Object id) c)) (object_at t id)
object-after_change id (changes.PutObject r) t =
    row_at-put_said by_object nat_cmp_total object_put (changes.PutObject r) (r.id == id) id r t.objects (is_eq-nat_cmp id r.id ∙ eqb_comm id r.id) refl
object-after_change id (changes.DeleteObject x) t = row_at-without_said by_object nat_cmp_total object_put (changes.DeleteObject x) (x == id) x id t.objects (is_eq-nat_cmp x id) refl
object-after_change id _ t = refl

pub link-said : (inode blockno : ℕ) (cs : List Change) (t : Tables) (c : Change) → last_change (ids.InodeBlock inode blockno) cs ≡ Some c → link_put c ≡ inode_block_at (tables_after cs t) inode blockno
link-said inode blockno = read-said (λ t. inode_block_at t inode blockno) (ids.InodeBlock inode blockno) link_put (link-after_change inode blockno)

pub link-kept : (inode blockno : ℕ) (cs : List Change) (t : Tables) → last_change (ids.InodeBlock inode blockno) cs ≡ None → inode_block_at t inode blockno ≡ inode_block_at (tables_after cs t) inode blockno
link-kept inode blockno = read-kept (λ t. inode_block_at t inode blockno) (ids.InodeBlock inode blockno) link_put (link-after_change inode blockno)

pub block-said : (id : ℕ) (cs : List Change) (t : Tables) (c : Change) → last_change (ids.Block id) cs ≡ Some c → block_put c ≡ block_at (tables_after cs t) id
block-said id = read-said (λ t. block_at t id) (ids.Block id) block_put (block-after_change id)

pub block-kept : (id : ℕ) (cs : List Change) (t : Tables) → last_change (ids.Block id) cs ≡ None → block_at t id ≡ block_at (tables_after cs t) id
block-kept id = read-kept (λ t. block_at t id) (ids.Block id) block_put (block-after_change id)

pub object-said : (id : ℕ) (cs : List Change) (t : Tables) (c : Change) → last_change (ids.Object id) cs ≡ Some c → object_put c ≡ object_at (tables_after cs t) id
object-said id = read-said (λ t. object_at t id) (ids.Object id) object_put (object-after_change id)

pub object-kept : (id : ℕ) (cs : List Change) (t : Tables) → last_change (ids.Object id) cs ≡ None → object_at t id ≡ object_at (tables_after cs t) id
object-kept id = read-kept (λ t. object_at t id) (ids.Object id) object_put (object-after_change id)

-- ---- parameters

params-after_change : (c : Change) (t : Tables)
    → (after_change c t).params ≡ unwrap_or (option_map params_set (about ids.Params c)) t.params
params-after_change (changes.SetParams p) t = refl
params-after_change _ t = refl

-- the parameters are those that are set last
pub params-said : (cs : List Change) (t : Tables) (c : Change)
    → last_change ids.Params cs ≡ Some c → params_set c ≡ (tables_after cs t).params
params-said = read-said (λ t. t.params) ids.Params params_set params-after_change

pub params-kept : (cs : List Change) (t : Tables)
    → last_change ids.Params cs ≡ None → t.params ≡ (tables_after cs t).params
params-kept = read-kept (λ t. t.params) ids.Params params_set params-after_change

-- ---- names by their bytes

-- the id of the name with these bytes, if any
abbrev id_of_bytes : Tables → List ℕ → Option ℕ
id_of_bytes t bytes = option_map (λ n. n.id) (name_of_bytes t bytes)

-- the id of the name that is put last with these bytes, and else of the one in the tables
abbrev pub id_after : List Change → Tables → List ℕ → Option ℕ
id_after cs t bytes = option_or (last_named bytes cs) (id_of_bytes t bytes)

id-kept : (x id : ℕ) (found : Option Name)
    → option_map (λ n. n.id) (kept by_name x found) ≡ Some id → option_map (λ n. n.id) found ≡ Some id
id-kept x id None is = absurd (cc is)
id-kept x id (Some n) is = by_case (has_key by_name x n) is
  where
    by_case : (b : Bool) → option_map (λ n. n.id) (cond b None (Some n)) ≡ Some id → Some n.id ≡ Some id
    by_case true is = absurd (cc is)
    by_case false is = is

-- a row with these bytes after a change is the one that it puts, or was there before
id_after-change : (c : Change) (t : Tables) (bytes : List ℕ) (id : ℕ) → IsOrdered t → StaysUnique (c ∷ []) t
    → id_of_bytes (after_change c t) bytes ≡ Some id → option_or (id_named bytes c) (id_of_bytes t bytes) ≡ Some id
id_after-change (changes.PutName r) t bytes id ordered unique is =
    by_case (has_bytes bytes r) (ap (option_map (λ n. n.id)) (put_found t r bytes ordered unique.0 unique.1) ∙ is)
  where
    by_case : (b : Bool)
        → option_map (λ n. n.id) (cond b (Some r) (kept by_name r.id (name_of_bytes t bytes))) ≡ Some id
        → option_or (cond b (Some r.id) None) (id_of_bytes t bytes) ≡ Some id
    by_case true now = now
    by_case false now = id-kept r.id id (name_of_bytes t bytes) now
id_after-change (changes.DeleteName x) t bytes id ordered unique is =
    id-kept x id (name_of_bytes t bytes) (ap (option_map (λ n. n.id)) (delete_found t x bytes unique.0) ∙ is)
id_after-change _ t bytes id ordered unique is = is

-- a row with these bytes after all changes is the one that is put last with them, or was there before
id_after-found : (cs : List Change) (t : Tables) (bytes : List ℕ) (n : Name) → IsOrdered t → StaysUnique cs t
    → name_of_bytes (tables_after cs t) bytes ≡ Some n → id_after cs t bytes ≡ Some n.id
id_after-found [] t bytes n ordered unique found = ap (option_map (λ n. n.id)) found
id_after-found (c ∷ cs) t bytes n ordered unique found =
    by_case (last_named bytes cs)
    (id_after-found cs (after_change c t) bytes n (IsOrdered-after_change c t ordered) unique.1 found)
  where
    by_case : (last : Option ℕ) → option_or last (id_of_bytes (after_change c t) bytes) ≡ Some n.id
        → option_or (option_or last (id_named bytes c)) (id_of_bytes t bytes) ≡ Some n.id
    by_case None is =
        id_after-change c t bytes n.id ordered (unique.0, unique_now cs (after_change c t) unique.1) is
    by_case (Some x) is = is

-- the row of its id has its bytes
with_bytes-found : (t : Tables) (bytes : List ℕ) (n : Name) → IsOrdered t
    → name_of_bytes t bytes ≡ Some n → with_bytes bytes (name_at t n.id) ≡ Some n
with_bytes-found t bytes n ordered found =
    ap (with_bytes bytes) (row_at_from_find by_name nat_cmp_total (has_bytes bytes) t.names n ordered.names found)
    ∙ ap (λ b. cond b (Some n) None) (find_passes (has_bytes bytes) t.names n found)

-- no row has bytes that are not found
with_bytes-none : (t : Tables) (bytes : List ℕ) (id : ℕ)
    → name_of_bytes t bytes ≡ None → with_bytes bytes (name_at t id) ≡ None
with_bytes-none t bytes id none = by_case (name_at t id) refl
  where
    others : IsTrue (list_all (λ x. not (has_bytes bytes x)) t.names)
    others = list_all_from_find (has_bytes bytes) t.names none

    by_case : (found : Option Name) → name_at t id ≡ found → with_bytes bytes found ≡ None
    by_case None is = refl
    by_case (Some m) is =
        ap (λ b. cond b (Some m) None)
        (false_from_not (has_bytes bytes m) (row_at_passes by_name (λ x. not (has_bytes bytes x)) id t.names m others is))

-- the row with these bytes is that of its id, where that has them still
name_of_bytes-tables_after : (cs : List Change) (t : Tables) (bytes : List ℕ) → IsOrdered t → StaysUnique cs t
    → name_of_bytes (tables_after cs t) bytes
    ≡ option_and_then (λ id. with_bytes bytes (name_at (tables_after cs t) id)) (id_after cs t bytes)
name_of_bytes-tables_after cs t bytes ordered unique = by_case (name_of_bytes after bytes) refl
  where
    after : Tables
    after = tables_after cs t

    row_of : Option ℕ → Option Name
    row_of id = option_and_then (λ n. with_bytes bytes (name_at after n)) id

    none : name_of_bytes after bytes ≡ None → (id : Option ℕ) → None ≡ row_of id
    none is None = refl
    none is (Some id) = sym (with_bytes-none after bytes id is)

    by_case : (found : Option Name) → name_of_bytes after bytes ≡ found → found ≡ row_of (id_after cs t bytes)
    by_case None is = none is (id_after cs t bytes)
    by_case (Some n) is =
        sym (with_bytes-found after bytes n (IsOrdered-tables_after cs t ordered) is)
        ∙ ap row_of (sym (id_after-found cs t bytes n ordered unique is))

-- the same of an id that was found
pub name_of_bytes-found : (cs : List Change) (t : Tables) (bytes : List ℕ) (found : Option ℕ)
    → IsOrdered t → StaysUnique cs t → found ≡ id_after cs t bytes
    → option_and_then (λ id. with_bytes bytes (name_at (tables_after cs t) id)) found
    ≡ name_of_bytes (tables_after cs t) bytes
name_of_bytes-found cs t bytes found ordered unique is =
    ap (option_and_then (λ id. with_bytes bytes (name_at (tables_after cs t) id))) is
    ∙ sym (name_of_bytes-tables_after cs t bytes ordered unique)
