-- Operations on the bytes of one file: how they end.
use Rattle.std.proofs.Common.{◌≡◌, ◌-◌, ℕ, min, List, [], length, drop, Option, None, Some, Result, Ok, Err, refl, sym, ap, ◌∙◌, subst, ⊎_elim}
use Rattle.std.specs.Prelude.{◌⊎◌, unwrap_or}
use Rattle.std.proofs.lemmas.List.{length-drop, length-take}
use Rattle.s3_base.specs.declared.errors.Errno.{Errno}
use Rattle.op_frames.specs.declared.operation.Op.{Op}
use Rattle.op_frames.specs.declared.operation.Op.TheVariants as ops
use Rattle.op_frames.specs.declared.reply.Reply.{Reply}
use Rattle.op_frames.specs.declared.reply.Reply.TheVariants as replies
use Rattle.plain_tree.specs.Tree.{Tree}
use Rattle.plain_tree.specs.Checks.{first_failure}
use Rattle.plain_tree.specs.Files.{file_at, read_at}
use Rattle.plain_tree.specs.Operations.{checks, success}
use Rattle.s3_rows.specs.Rows.{Inode, Parameters}
use Rattle.s3_rows.specs.Tables.{Tables}
use Rattle.s3_rows.specs.Told.{Told, IfTold}
use Rattle.s3_devices.specs.Objects.{Objects}
use Rattle.s3_devices.specs.Told as stores
use Rattle.core_model.specs.Changes.{touched_blocks}
use Rattle.file_ops.specs.declared.file_fault.FileFault.{FileFault}
use Rattle.file_ops.specs.declared.file_fault.FileFault.TheVariants as faults
use Rattle.file_ops.specs.FileBytes.{IfFile, IsFile}
use Rattle.file_ops.specs.FileFaults.{IsLossAmong}
use Rattle.volume_core.specs.declared.refusal.Refusal.{Refusal}
use Rattle.volume_core.specs.declared.refusal.Refusal.TheVariants.{Refused, Worn, Keeper, Link, Lost, Memory}
use Rattle.volume_core.specs.declared.row_core.RowCore.{RowCore}
use Rattle.volume_core.specs.Backed.{IsBacked}
use Rattle.volume_core.specs.Causes.{LacksBlocks, file_used, length_of_file, needed_by}
use Rattle.volume_core.specs.Refusals.{HasLength, IsAlike, IsOutcome, IsStill, refusal_of}
use Rattle.volume_core.specs.Rows.{IsFound, IsSizeRefusal}
use Rattle.volume_core.specs.Standing.{StandsFor}
use Rattle.volume_core.proofs.Changed.{size-row}
use Rattle.volume_core.proofs.FileRoom.{no_blocks_room}
use Rattle.volume_core.proofs.Looking.{IsOpenFile}
use Rattle.volume_core.proofs.Standing.{backed_still, still, still_alike, stored_still, told_fact}

module _ {K : Type 0} (told : K → Option Told) (before after : RowCore K) (digest_of : List ℕ → List ℕ) (objects later : Option Objects) (whole : Tree) (s : StandsFor told before whole) (pass : ℕ) (op : Op) (now : ℕ) where
  abbrev Outcome : Result Reply Refusal → Type 0
  Outcome result = IsOutcome told before after digest_of objects later whole pass op now result

  -- a row that is not found
  pub row_refusal : (P : Tables → Result Inode Errno → Type 0) (refusal : Refusal) → IfTold (told before.keeper) (λ t. IsFound (P t) (Err refusal))
      → ((errno : Errno) → IfTold (told before.keeper) (λ t. IsFound (P t) (Err (Refused errno))) → first_failure (checks whole pass op) ≡ Some errno.0)
      → IsStill told before after digest_of objects later whole → Outcome (Err refusal)
  row_refusal P (Refused errno) found fails still = (fails errno found, still)
  row_refusal P Worn found fails still = absurd (told_fact (told before.keeper) s.now (λ t. IsFound (P t) (Err Worn)) s.tells found)
  row_refusal P Keeper found fails still = still_alike told before after digest_of objects later whole op still
  row_refusal P Link found fails still = absurd (told_fact (told before.keeper) s.now (λ t. IsFound (P t) (Err Link)) s.tells found)
  row_refusal P (Lost object kept got) found fails still = absurd (told_fact (told before.keeper) s.now (λ t. IsFound (P t) (Err (Lost object kept got))) s.tells found)
  row_refusal P Memory found fails still = still_alike told before after digest_of objects later whole op still

  -- the size of a block is not known
  pub size_refusal : (refusal : Refusal) → IsSizeRefusal refusal → IfTold (told before.keeper) (λ t. refusal ≡ Worn → t.params ≡ None) → IsAlike told before after digest_of objects later whole op → Outcome (Err refusal)
  size_refusal (Refused errno) is there alike = absurd is
  size_refusal Worn is there alike =
      let none : s.now.tables.params ≡ None = told_fact (told before.keeper) s.now (λ t. Worn ≡ Worn → t.params ≡ None) s.tells there refl in
      let clash : None ≡ Some s.served.valid.params = sym none ∙ s.served.valid.is_made in
      absurd (cc clash)
  size_refusal Keeper is there alike = alike
  size_refusal Link is there alike = absurd is
  size_refusal (Lost object kept got) is there alike = absurd is
  size_refusal Memory is there alike = alike

  -- a fault of blocks
  pub fault_outcome : (fault : FileFault) → first_failure (checks whole pass op) ≡ None
      → IsLossAmong digest_of (told before.keeper) objects (file_used whole pass op) (λ t. needed_by t whole pass op) fault
      → (fault ≡ faults.Worn → LacksBlocks digest_of (told before.keeper) objects whole pass op now)
      → IsAlike told before after digest_of objects later whole op → Outcome (Err (refusal_of fault))
  fault_outcome faults.Keeper passes loss worn alike = alike
  fault_outcome faults.Link passes loss worn alike = alike
  fault_outcome (faults.Lost object kept got) passes loss worn alike = (passes, loss, alike)
  fault_outcome faults.Worn passes loss worn alike = (passes, worn refl, alike)
  fault_outcome faults.Memory passes loss worn alike = alike

-- the size of a block that was read is that of the tree
pub size_known : {K : Type 0} (told : K → Option Told) (before : RowCore K) (whole : Tree) (s : StandsFor told before whole) (n : ℕ) (k : Option Told) → k ≡ told before.keeper
    → IfTold k (λ t. (p : Parameters) × (t.params ≡ Some p) × (p.block_size ≡ n)) → n ≡ whole.block_size
size_known told before whole s n k same is =
    let found = told_fact k s.now (λ t. (p : Parameters) × (t.params ≡ Some p) × (p.block_size ≡ n)) (same ∙ s.tells) is in
    sym found.2 ∙ size-row s.now.tables whole found.0 s.represents found.1

-- the same loss, of a file and blocks that are said otherwise
pub same_loss : (digest_of : List ℕ → List ℕ) (tables : Option Told) (objects : Option Objects) (inode other : ℕ) (numbers those : Tables → List ℕ) (fault : FileFault) → inode ≡ other → numbers ≡ those
    → IsLossAmong digest_of tables objects inode numbers fault → IsLossAmong digest_of tables objects other those fault
same_loss digest_of tables objects inode other numbers those fault same alike loss =
    subst (λ n. IsLossAmong digest_of tables objects other n fault) alike (subst (λ x. IsLossAmong digest_of tables objects x numbers fault) same loss)

-- how long a file is
pub length_is : (whole : Tree) (x n : ℕ) (bytes : List ℕ) → file_at whole x ≡ Some bytes → length bytes ≡ n → length_of_file whole x ≡ n
length_is whole x n bytes file long = ap (λ (f : Option (List ℕ)). elim f as (λ _. ℕ) [ Some own ↦ length own | None ↦ 0 ]) file ∙ long

-- what needs no count or id lacks none
pub none_worn : (x : Option Told) (s : Told) → x ≡ Some s → IfTold x (λ t. ⊥ ⊎ ⊥) → ⊥
none_worn x s is worn = ⊎_elim (λ none. none) (λ none. none) (told_fact x s (λ t. ⊥ ⊎ ⊥) is worn)

-- ---- Fsync

-- all is written through, so that nothing is left to do
pub was_synced : {K : Type 0} (told : K → Option Told) (before after : RowCore K) (digest_of : List ℕ → List ℕ) (objects : Option Objects) (whole : Tree) (s : StandsFor told before whole) (pass handle now : ℕ)
    → first_failure (checks whole pass (ops.Fsync handle)) ≡ None → told after.keeper ≡ told before.keeper → after.handles ≡ before.handles
    → IsOutcome told before after digest_of objects objects whole pass (ops.Fsync handle) now (Ok replies.Done)
was_synced told before after digest_of objects whole s pass handle now passes same handles = record {
  passes = passes;
  like = refl;
  stays = record {
    stands = still told before after digest_of objects whole s same handles;
    stored = stored_still told before after digest_of objects whole s same;
    backed = backed_still told before after digest_of objects whole s same (replies.Done ≡ success whole pass (ops.Fsync handle) now) (λ x m b is. refl);
  };
  tells = same;
  unworn = none_worn (told before.keeper) s.now s.tells;
  room = no_blocks_room digest_of (told before.keeper) objects whole pass (ops.Fsync handle) now refl;
}

-- ---- Read

module _ {K : Type 0} (told : K → Option Told) (before after : RowCore K) (digest_of : List ℕ → List ℕ) (objects : Option Objects) (whole : Tree) (s : StandsFor told before whole)
    (pass handle offset count now : ℕ) (r : Inode) (o : IsOpenFile s.now.tables whole pass handle r) (block_size : ℕ) (size : block_size ≡ whole.block_size) where
  abbrev read : Op
  read = ops.Read handle offset count

  file_is : file_used whole pass read ≡ r.id
  file_is = o.inode

  long : length_of_file whole (file_used whole pass read) ≡ r.size
  long = ap (length_of_file whole) o.inode ∙ length_is whole r.id r.size o.bytes o.file o.size

  needed : ◌≡◌ {A = Tables → List ℕ} (λ t. touched_blocks block_size offset (min count (r.size - offset))) (λ t. needed_by t whole pass read)
  needed = λ i t. touched_blocks (size i) offset (min count (sym long i - offset))

  pub read_loss : (fault : FileFault) → IsLossAmong digest_of (told before.keeper) objects r.id (λ t. touched_blocks block_size offset (min count (r.size - offset))) fault
      → IsLossAmong digest_of (told before.keeper) objects (file_used whole pass read) (λ t. needed_by t whole pass read) fault
  read_loss fault loss =
      same_loss digest_of (told before.keeper) objects r.id (file_used whole pass read) (λ t. touched_blocks block_size offset (min count (r.size - offset))) (λ t. needed_by t whole pass read) fault (sym file_is) needed loss

  success_is : success whole pass read now ≡ replies.Bytes (read_at offset count o.bytes)
  success_is = ap (λ (f : Option (List ℕ)). replies.Bytes (read_at offset count (unwrap_or f []))) o.opened

  pub was_read : (out : List ℕ) → first_failure (checks whole pass read) ≡ None → length out ≡ min count (r.size - offset)
      → IfFile (told before.keeper) objects r.id r.size block_size (λ file. out ≡ read_at offset count file)
      → told after.keeper ≡ told before.keeper → after.handles ≡ before.handles
      → IsOutcome told before after digest_of objects objects whole pass read now (Ok (replies.Bytes out))
  was_read out passes as_long bytes same handles = record {
    passes = passes;
    like = subst (λ reply. HasLength reply (replies.Bytes out)) (sym success_is) (out, refl, as_long ∙ sym (length-take count (drop offset o.bytes) ∙ ap (min count) (length-drop offset o.bytes ∙ ap (λ n. n - offset) o.size)));
    stays = record {
      stands = still told before after digest_of objects whole s same handles;
      stored = stored_still told before after digest_of objects whole s same;
      backed = backed_still told before after digest_of objects whole s same (replies.Bytes out ≡ success whole pass read now) exactly;
    };
    tells = same;
    unworn = none_worn (told before.keeper) s.now s.tells;
    room = no_blocks_room digest_of (told before.keeper) objects whole pass read now refl;
  }
    where
      exactly : (x : Objects) (m : List (List ℕ × List ℕ)) → IsBacked m s.now.tables x whole → objects ≡ Some x → replies.Bytes out ≡ success whole pass read now
      exactly x m b is =
          let file : IsFile s.now.tables x r.id r.size block_size o.bytes =
          record { contents = m; whole = whole; held = b.held; has = b.has; is = o.file; long = o.size; blocks = sym size } in
          let own : stores.IfTold objects (λ y. (file : List ℕ) → IsFile s.now.tables y r.id r.size block_size file → out ≡ read_at offset count file) =
          told_fact (told before.keeper) s.now (λ t. stores.IfTold objects (λ y. (file : List ℕ) → IsFile t y r.id r.size block_size file → out ≡ read_at offset count file)) s.tells bytes in
          ap replies.Bytes (subst (λ y. stores.IfTold y (λ z. (file : List ℕ) → IsFile s.now.tables z r.id r.size block_size file → out ≡ read_at offset count file)) is own o.bytes file) ∙ sym success_is
