-- The tables of a file system that was just made.
use Rattle.std.specs.Prelude.{ℕ, [], ◌∷◌, false, Some}
use Rattle.s3_base.specs.declared.node_kind.Kind.TheVariants as kinds
use Rattle.s3_rows.specs.declared.params.State.TheVariants as states
use Rattle.s3_rows.specs.Rows.{Inode, Parameters}
use Rattle.s3_rows.specs.Tables.{Tables, no_tables}
use Rattle.s3_rows.specs.Validity.{lost_and_found}
use Rattle.s3_rows.specs.Stores.{Keys}

abbrev pub made_parameters : ℕ → ℕ → Parameters
made_parameters block_size slots = record {
  revision = 1;
  block_size = block_size;
  slots = slots;
  state = states.Clean;
  next_inode = 3;
  next_name = 2;
  next_block = 1;
  next_object = 1;
  generation = 1;
  last_done = 1;
}

-- a directory that one entry names
abbrev pub made_directory : ℕ → ℕ → ℕ → Inode
made_directory id mode now = record {
  id = id;
  kind = kinds.Directory;
  mode = mode;
  uid = 0;
  gid = 0;
  mtime = now;
  ctime = now;
  refcount = 1;
  size = 0;
  locked = false;
}

-- the root, and lost+found in it
abbrev pub made_tables : ℕ → ℕ → ℕ → Tables
made_tables block_size slots now = record no_tables {
  params = Some (made_parameters block_size slots);
  inodes = made_directory 1 493 now ∷ made_directory 2 448 now ∷ [];
  names = record { id = 1; refcount = 1; name = lost_and_found } ∷ [];
  contents = record { parent = 1; name_id = 1; inode = 2 } ∷ [];
}

-- no objects, and the first generation
abbrev pub made_keys : Keys
made_keys = record { objects = []; generations = 1 ∷ [] }
