-- What a pass has done so far: the tables as they are by now, with the changes and the findings that led there.
use Rattle.std.specs.Prelude.{ℕ, ◌+◌, ◌^◌, List, [], ◌∷◌, ◌++◌, max, map, nat_lt, Option, None, Some, if◌then◌else◌}
use Rattle.s3_rows.specs.declared.change.Change.{Change}
use Rattle.s3_rows.specs.declared.change.Change.TheVariants as changes
use Rattle.s3_rows.specs.Rows.{Parameters}
use Rattle.s3_rows.specs.Tables.{Tables}
use Rattle.s3_rows.specs.Batches.{tables_after}
use Rattle.s3_rows.specs.Selections.{name_of_bytes}
use Rattle.fsck_findings.specs.declared.finding.Finding.{Finding}

-- `least_inode` and `least_name` are above every number in use as the pass begins
pub record Work : Type 0 where
  pub params : Parameters
  pub tables : Tables
  pub least_inode : ℕ
  pub least_name : ℕ
  pub changes : List Change
  pub findings : List Finding

-- one more than the greatest of the numbers
abbrev pub above : List ℕ → ℕ
above [] = 1
above (n ∷ ns) = max (n + 1) (above ns)

-- the numbers of inodes that rows have or name
abbrev pub inodes_in_use : Tables → List ℕ
inodes_in_use t =
    map (λ r. r.id) t.inodes ++ map (λ r. r.parent) t.contents ++ map (λ r. r.inode) t.contents ++ map (λ r. r.inode) t.inode_blocks
    ++ map (λ r. r.inode) t.targets ++ map (λ r. r.inode) t.attrs ++ map (λ r. r.inode) t.slots

-- the numbers of names that rows have or name
abbrev pub names_in_use : Tables → List ℕ
names_in_use t = map (λ r. r.id) t.names ++ map (λ r. r.name_id) t.contents ++ map (λ r. r.name_id) t.attrs

-- the numbers of blocks that rows have or name
abbrev pub blocks_in_use : Tables → List ℕ
blocks_in_use t = map (λ r. r.id) t.blocks ++ map (λ r. r.block) t.inode_blocks

abbrev pub begun : Parameters → Tables → Work
begun p t = record {
  params = p;
  tables = t;
  least_inode = above (inodes_in_use t);
  least_name = above (names_in_use t);
  changes = [];
  findings = [];
}

-- the changes are made
abbrev pub changed : List Change → Work → Work
changed cs w = record w { tables = tables_after cs w.tables; changes = w.changes ++ cs }

-- the findings are noted
abbrev pub noted : List Finding → Work → Work
noted fs w = record w { findings = w.findings ++ fs }

-- the second step after the first, if that gave something
infixl 10 ◌>>=◌
abbrev pub ◌>>=◌ : {A B : Type 0} → Option A → (A → Option B) → Option B
(Some x) >>= f = f x
None >>= f = None

-- with other parameters
abbrev pub with_params : Parameters → Work → Work
with_params p w = changed (changes.SetParams p ∷ []) (record w { params = p })

-- a new number of an inode, which is below 2^62
abbrev pub new_inode : Work → Option (ℕ × Work)
new_inode w =
    let id = max w.params.next_inode w.least_inode in
    if nat_lt id (2 ^ 62) then Some (id, with_params (record w.params { next_inode = id + 1 }) w) else None

-- a new name of these bytes, with the count 1
abbrev pub new_name : List ℕ → Work → Option (ℕ × Work)
new_name bytes w =
    let id = max w.params.next_name w.least_name in
    if nat_lt id (2 ^ 62) then
    Some (id, changed (changes.PutName (record { id = id; refcount = 1; name = bytes }) ∷ []) (with_params (record w.params { next_name = id + 1 }) w))
    else None

-- the number of the name of these bytes, which is made where there is none
abbrev pub name_id_of : List ℕ → Work → Option (ℕ × Work)
name_id_of bytes w = elim (name_of_bytes w.tables bytes) [ Some n ↦ Some (n.id, w) | None ↦ new_name bytes w ]

-- a new entry
abbrev pub entered : ℕ → List ℕ → ℕ → Work → Option Work
entered parent bytes inode w = do
  name ← name_id_of bytes w
  Some (changed (changes.PutContent (record { parent = parent; name_id = name.0; inode = inode }) ∷ []) name.1)

-- one step for each item, in order
abbrev pub each : {A : Type 0} → (A → Work → Option Work) → List A → Work → Option Work
each step [] w = Some w
each step (x ∷ xs) w = do
  v ← step x w
  each step xs v
