-- Where a number or a count is missing for the blocks that a call writes, a count of the tree is at its end.
use Rattle.std.proofs.Common.{◌≡◌, ◌≤◌, ◌^◌, ℕ, List, [], ◌∷◌, length, Bool, true, false, cond, Option, refl, inl, inr, arith}
use Rattle.std.specs.Prelude.{IsTrue, ◌⊎◌, nat_lt}
use Rattle.std.proofs.lemmas.Bool.Decides.{nat_tests}
use Rattle.frame_fields.specs.Fields.{data_field, data_length_field}
use Rattle.op_frames.specs.Operations.{is_op}
use Rattle.op_frames.specs.declared.operation.Op.{Op}
use Rattle.op_frames.specs.declared.operation.Op.TheVariants as ops
use Rattle.plain_tree.specs.Tree.{Tree}
use Rattle.block_math.specs.Changes.{resized, written_at}
use Rattle.s3_rows.specs.declared.change.Change.TheVariants as changes
use Rattle.s3_rows.specs.Rows.{Inode}
use Rattle.s3_rows.specs.Tables.{Tables}
use Rattle.s3_rows.specs.Validity.{IsValid}
use Rattle.s3_devices.specs.Objects.{Objects}
use Rattle.tree_rows.specs.Shapes.{Represents}
use Rattle.block_steps.specs.Owed.{next_block_of}
use Rattle.core_model.specs.Bytes.{no_overlay}
use Rattle.core_model.specs.Changes.{blocks_of_resize, blocks_of_write}
use Rattle.core_model.specs.Exact.{IsExact}
use Rattle.core_model.specs.Occurring.{IsCollisionFree, blocks_in}
use Rattle.file_ops.specs.FileBytes.{stored_in}
use Rattle.file_ops.specs.FileChanges.{next_object_of, with_length}
use Rattle.file_ops.proofs.ChangedFew.{few_write, resized_few, written_few}
use Rattle.volume_core.specs.Causes.{AreWornBlocks}
use Rattle.offline_tool.specs.Runs.{HasFullCount}
use Rattle.offline_tool.proofs.LimitLaws.{BlockLimits}

-- the data of a write in a frame fit into one frame
short_write : (handle offset : ℕ) (bytes : List ℕ) → IsTrue (is_op (ops.Write handle offset bytes)) → length bytes ≤ 131072
unfolding data_field data_length_field
short_write handle offset bytes allowed = grind (arith, nat_tests)

-- the batch of another length puts the row first where the file grows
put_or_none : (b : Bool) (row : Inode) → (cond b [] (changes.PutInode row ∷ []) ≡ []) ⊎ ((r : Inode) × (cond b [] (changes.PutInode row ∷ []) ≡ changes.PutInode r ∷ []))
put_or_none true row = inl refl
put_or_none false row = inr (row, refl)

module _ (law : BlockLimits) (digest_of : List ℕ → List ℕ) (t : Tables) (objects : Option Objects) (whole : Tree) (valid : IsValid t) (same : Represents t whole) (exact : IsExact digest_of t no_overlay whole)
    (free : IsCollisionFree digest_of (blocks_in whole)) (size : 4096 ≤ whole.block_size) (blocks : next_block_of t ≤ 2 ^ 60) (left : next_object_of t ≤ 2 ^ 60) where
  pub worn_blocks_full : (r : Inode) (pass now : ℕ) (op : Op) → IsTrue (is_op op) → AreWornBlocks digest_of t objects whole r now op → HasFullCount whole pass op now
  worn_blocks_full r pass now (ops.Truncate inode longer) allowed worn =
      law digest_of t objects whole r whole.block_size (resized longer) (blocks_of_resize whole.block_size longer r.size (stored_in t r.id)) _ valid same exact free
      (put_or_none (nat_lt longer r.size) (with_length longer now r)) (omega (arith, resized_few whole.block_size longer r.size (stored_in t r.id))) blocks left worn
  worn_blocks_full r pass now (ops.Write handle offset bytes) allowed worn =
      law digest_of t objects whole r whole.block_size (written_at offset bytes) (blocks_of_write whole.block_size offset (length bytes) r.size (stored_in t r.id)) _ valid same exact free
      (inr (_, refl))
      (omega (arith, written_few whole.block_size offset (length bytes) r.size (stored_in t r.id), few_write (length bytes) offset whole.block_size size (short_write handle offset bytes allowed)))
      blocks left worn
  worn_blocks_full r pass now _ allowed worn = absurd worn
