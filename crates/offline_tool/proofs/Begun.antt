-- The file system of a replay that was just made, and its core that was just opened.
use Rattle.std.proofs.Common.{◌≡◌, ◌<◌, ◌≤◌, ℕ, List, [], ◌∷◌, Bool, true, false, cond, None, Some, refl, sym, ap, ◌∙◌, subst, arith}
use Rattle.std.specs.Prelude.{IsTrue, nat_le, is_some, option_and_then, ◌||◌}
use Rattle.std.specs.BTreeMap.{is_at}
use Rattle.std.specs.Ordering.{nat_cmp}
use Rattle.std.specs.List.{list_all}
use Rattle.std.specs.List.Sorted.{IsStrictlySortedBy}
use Rattle.sha2.specs.Sha256.{sha256}
use Rattle.s3_base.specs.Numbers.{root}
use Rattle.plain_tree.specs.Files.{bytes_of, file_at}
use Rattle.plain_tree.specs.Tree.{Directory, Node, empty_directory, lost_and_found, made_tree}
use Rattle.s3_rows.specs.declared.change.Change.TheVariants as changes
use Rattle.s3_rows.specs.Rows.{Parameters}
use Rattle.s3_rows.specs.Made.{made_tables, made_parameters}
use Rattle.s3_rows.specs.Stores.{AreHeld}
use Rattle.s3_rows.specs.Tables.{Tables, IsOrdered, no_tables}
use Rattle.s3_rows.specs.Told.{Told, one_more, with_batch}
use Rattle.s3_devices.specs.Keys.{objects_in}
use Rattle.s3_devices.specs.Objects.{Objects, AreOrdered}
use Rattle.mkfs_ops.specs.Making.{has_own_key, made_with}
use Rattle.tree_rows.specs.Contents.{Contents, HaveBytes, tree_of}
use Rattle.core_model.specs.Bytes.{HasBytes, no_overlay}
use Rattle.core_model.specs.Safe.{HaveHeld}
use Rattle.block_steps.specs.Owed.{next_block_of}
use Rattle.file_ops.specs.FileChanges.{next_object_of}
use Rattle.ref_counts.specs.Plans.{next_name_of}
use Rattle.tree_laws.specs.Growth.{HaveFewNames}
use Rattle.volume_core.specs.Opening.{IsMounting, mounted}
use Rattle.volume_core.specs.Standing.{StandsFor}
use Rattle.offline_tool.specs.declared.served.Served.{Served}
use Rattle.offline_tool.specs.Serving.{HasBytesOf, IsBegun, told_by}

-- the made tree has directories alone
no_file : (block_size inode : ℕ) (bytes : List ℕ) → file_at (made_tree block_size 0) inode ≡ Some bytes → ⊥
no_file block_size inode bytes there = by_test (is_at (nat_cmp inode) root) (is_at (nat_cmp inode) 2) there
  where
    by_test : (a b : Bool)
        → option_and_then (λ (n : Node). bytes_of n.content)
        (cond a (Some (record (empty_directory 493 0) { content = Directory ((lost_and_found, 2) ∷ []) })) (cond b (Some (empty_directory 448 0)) None)) ≡ Some bytes → ⊥
    by_test true b is = cc is
    by_test false true is = cc is
    by_test false false is = cc is

module _ (s : Served) (keeper : Told) (block_size slots : ℕ) (made : keeper.tables ≡ made_tables block_size slots 0) (least : 4096 ≤ block_size)
    (mounting : IsMounting keeper (told_by s.core.keeper)) where
  -- the made tables, mounted
  abbrev opened : Tables
  opened = record (made_tables block_size slots 0) { params = Some (mounted (made_parameters block_size slots)) }

  tables : s.core.keeper.tables ≡ opened
  tables =
      let p : Parameters = mounting.0 in
      let own : Some p ≡ Some (made_parameters block_size slots) = sym mounting.1 ∙ ap (λ (t : Tables). t.params) made in
      let params : p ≡ made_parameters block_size slots = cc own in
      let after : Told = with_batch (changes.SetParams (mounted p) ∷ []) keeper in
      let one : Some s.core.keeper ≡ Some after = mounting.3 in
      let now : s.core.keeper ≡ after = cc one in
      ap (λ (x : Told). x.tables) now ∙ ap (λ (t : Tables). record t { params = Some (mounted p) }) made
      ∙ ap (λ (q : Parameters). record (made_tables block_size slots 0) { params = Some (mounted q) }) params

  -- there are no files, so that any contents have their bytes
  has_bytes : ((m : Contents) (t : Tables) (p : Parameters) → t.params ≡ Some p → 0 < p.block_size → HaveBytes m t.blocks
      → IsTrue (list_all (λ r. nat_le r.size p.block_size) t.blocks) → HasBytes m t no_overlay (tree_of m t)) → tree_of [] (made_tables block_size slots 0) ≡ made_tree block_size 0
      → (m : Contents) → HasBytesOf m s (made_tree block_size 0)
  has_bytes law whole m =
      let own : HasBytes m opened no_overlay (tree_of m opened) = law m opened (mounted (made_parameters block_size slots)) refl (omega (arith, least)) tt refl in
      let same : tree_of m opened ≡ tree_of [] (made_tables block_size slots 0) = refl in
      record {
        backed = record {
          has = subst (λ (t : Tables). HasBytes m t no_overlay (made_tree block_size 0)) (sym tables) (subst (HasBytes m opened no_overlay) (same ∙ whole) own);
          held = subst (λ (t : Tables). HaveHeld m (objects_in s.link) t.blocks) (sym tables) tt;
        };
        exact = λ inode blockno none bytes there. absurd (no_file block_size inode bytes there);
      }

  pub begun : ((block : ℕ) (time : ℕ) → HaveFewNames 1 (made_tree block time)) → ((m : Contents) (t : Tables) (p : Parameters) → t.params ≡ Some p → 0 < p.block_size → HaveBytes m t.blocks
      → IsTrue (list_all (λ r. nat_le r.size p.block_size) t.blocks) → HasBytes m t no_overlay (tree_of m t)) → tree_of [] (made_tables block_size slots 0) ≡ made_tree block_size 0
      → StandsFor told_by s.core (made_tree block_size 0) → IsBegun s (made_tree block_size 0)
  begun few law whole stands = record {
    serves = record {
      stands = stands;
      size = least;
      held = subst (λ (t : Tables). AreHeld sha256 (objects_in s.link) t.blocks) (sym tables) tt;
      names = subst (λ (t : Tables). next_name_of t ≤ 2) (sym tables) (omega arith);
      links = few block_size 0;
      blocks = subst (λ (t : Tables). next_block_of t ≤ 1) (sym tables) (omega arith);
      objects = subst (λ (t : Tables). next_object_of t ≤ 1) (sym tables) (omega arith);
    };
    backed = has_bytes law whole;
  }

-- ---- making it

nothing_is_ordered : IsOrdered no_tables
nothing_is_ordered = record { inodes = refl; names = refl; contents = refl; inode_blocks = refl; blocks = refl; objects = refl; targets = refl; attrs = refl; slots = refl }

-- what a keeper of no tables tells once a file system was made in it
pub made_rows : (before after : Told) (block_size slots : ℕ) → before ≡ record { tables = no_tables; commits = 0 }
    → (IsOrdered before.tables → told_by after ≡ Some (record { tables = made_with (record { block_size = block_size; slots = slots; now = 0 }); commits = one_more before.commits }))
    → after.tables ≡ made_tables block_size slots 0
made_rows before after block_size slots empty made =
    let ordered : IsOrdered before.tables = subst (λ (s : Told). IsOrdered s.tables) (sym empty) nothing_is_ordered in
    let own : Some after ≡ Some (record { tables = made_tables block_size slots 0; commits = one_more before.commits }) = made ordered in
    let now : after ≡ record { tables = made_tables block_size slots 0; commits = one_more before.commits } = cc own in
    ap (λ (s : Told). s.tables) now

-- nothing is there before
pub nothing_exists : (rows : Told) (store : Objects) → rows ≡ record { tables = no_tables; commits = 0 } → store ≡ []
    → (AreOrdered store → IsTrue (is_some rows.tables.params || has_own_key store)) → ⊥
unfolding IsStrictlySortedBy
nothing_exists rows store no_rows no_objects exists =
    let ordered : AreOrdered store = subst (λ (o : Objects). AreOrdered o) (sym no_objects) tt in
    let any : (is_some rows.tables.params || has_own_key store) ≡ false =
    ap (λ (s : Told). is_some s.tables.params || has_own_key store) no_rows ∙ ap has_own_key no_objects in
    let clash : true ≡ false = sym (exists ordered) ∙ any in
    cc clash
