-- The bytes of files, where tables and the object store are told.
use Rattle.std.specs.Prelude.{ℕ, List, Option}
use Rattle.plain_tree.specs.Tree.{Tree}
use Rattle.s3_rows.specs.Stores.{AreHeld}
use Rattle.s3_rows.specs.Tables.{Tables}
use Rattle.s3_rows.specs.Told.{Told, IfTold}
use Rattle.s3_devices.specs.Keys.{objects_in}
use Rattle.s3_devices.specs.Objects.{Objects}
use Rattle.s3_devices.specs.Told.{Becomes}
use Rattle.tree_rows.specs.Contents.{Contents}
use Rattle.core_model.specs.Bytes.{HasBytes, no_overlay}
use Rattle.core_model.specs.Exact.{IsExact}
use Rattle.core_model.specs.Occurring.{KnowsAll, blocks_in}
use Rattle.core_model.specs.Safe.{HaveHeld}

-- tables, contents and the store have the bytes of the tree
pub record IsBacked (m : Contents) (t : Tables) (o : Objects) (whole : Tree) : Type 0 where
  pub has : HasBytes m t no_overlay whole
  pub held : HaveHeld m (objects_in o) t.blocks

-- they still do, of the tree after a call, and its places are exact where all were before
pub record AreBackedAfter (digest_of : List ℕ → List ℕ) (m : Contents) (t after : Tables) (o : Objects) (whole next : Tree) : Type 0 where
  pub backed : IsBacked m after o next
  pub exact : IsExact digest_of t no_overlay whole → IsExact digest_of after no_overlay next

-- For all contents with which the bytes of the tree before a call are there, and which know the blocks of the tree after it, a fact
-- holds, and the bytes of that tree are there.
abbrev pub GoesOnBacked : (List ℕ → List ℕ) → Type 0 → Option Told → Option Told → Option Objects → Option Objects → Tree → Tree → Type 0
GoesOnBacked digest_of fact before after objects later whole next =
    IfTold before (λ t. Becomes (λ o now. (m : Contents) → IsBacked m t o whole → KnowsAll digest_of m (blocks_in next)
    → fact × IfTold after (λ u. AreBackedAfter digest_of m t u now whole next)) objects later)

-- the object of each block is held with bytes of the digest of its row, where it was before
abbrev pub StaysStored : (List ℕ → List ℕ) → Option Told → Option Told → Option Objects → Option Objects → Type 0
StaysStored digest_of before after objects later =
    IfTold before (λ t. Becomes (λ o now. AreHeld digest_of (objects_in o) t.blocks → IfTold after (λ u. AreHeld digest_of (objects_in now) u.blocks)) objects later)
