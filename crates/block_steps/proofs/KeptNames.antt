-- What changes of places leave alone: names and the tree, and of blocks their digests, sizes and objects.
use Rattle.std.proofs.Common.{◌≡◌, ℕ, ◌+◌, ◌-◌, List, [], ◌∷◌, Bool, true, false, cond, Option, None, Some, refl, sym, ap, ◌∙◌, subst, arith}
use Rattle.std.specs.Prelude.{◌==◌, ◌^◌, nat_lt, option_map, unwrap_or}
use Rattle.std.specs.Cmp.{nat_cmp_total}
use Rattle.std.specs.Ordering.{is_eq}
use Rattle.plain_tree.specs.Tree.{Tree}
use Rattle.s3_rows.specs.declared.change.Change.{Change}
use Rattle.s3_rows.specs.declared.change.Change.TheVariants as changes
use Rattle.s3_rows.specs.declared.digest.Digest.{Digest}
use Rattle.s3_rows.specs.Rows.{InodeBlock, Block, Name, Object, Parameters}
use Rattle.s3_rows.specs.Keyed.{has_key, put, row_at, without}
use Rattle.s3_rows.specs.Tables.{Tables, by_block}
use Rattle.s3_rows.specs.Batches.{tables_after}
use Rattle.s3_rows.specs.Selections.{block_at, inode_block_at, object_at}
use Rattle.s3_rows.specs.Validity.{HasUniqueNames, differ, have_same_bytes}
use Rattle.row_lemmas.proofs.Keyed.Put.{row_at-put}
use Rattle.row_lemmas.proofs.Keyed.RowAt.{row_at_key}
use Rattle.row_lemmas.proofs.Keyed.Without.{row_at-without}
use Rattle.tree_rows.specs.Shapes.{Represents, shape_of_tables}
use Rattle.ref_counts.specs.Links.{counted_block, link_replaced, link_set, lowered_block, lowered_object, relinked, AreRowsOf}
use Rattle.block_steps.specs.Owed.{KeepsNames, next_block_of, without_next_block}
use Rattle.block_steps.specs.Places.{block_made}
use Rattle.block_steps.proofs.DebtsBlocks.{one_number}

-- ---- names

pub KeepsNames-refl : (t : Tables) → KeepsNames t t
KeepsNames-refl t = record {
  params = refl;
  next_block = omega arith;
  inodes = refl;
  names = refl;
  contents = refl;
  targets = refl;
  attrs = refl;
  slots = refl;
}

pub KeepsNames-trans : (t middle after : Tables) → KeepsNames t middle → KeepsNames middle after → KeepsNames t after
KeepsNames-trans t middle after a b = record {
  params = b.params ∙ a.params;
  next_block = omega (arith, a.next_block, b.next_block);
  inodes = b.inodes ∙ a.inodes;
  names = b.names ∙ a.names;
  contents = b.contents ∙ a.contents;
  targets = b.targets ∙ a.targets;
  attrs = b.attrs ∙ a.attrs;
  slots = b.slots ∙ a.slots;
}

-- other places, blocks and objects
KeepsNames-rows : (t : Tables) (places : List InodeBlock) (rows : List Block) (objects : List Object)
    → KeepsNames t (record t { inode_blocks = places; blocks = rows; objects = objects })
KeepsNames-rows t places rows objects = record {
  params = refl;
  next_block = omega arith;
  inodes = refl;
  names = refl;
  contents = refl;
  targets = refl;
  attrs = refl;
  slots = refl;
}

pub KeepsNames-counted : (t : Tables) (b : Block) (more : List Change) → counted_block (Some b) ≡ Some more → KeepsNames t (tables_after more t)
KeepsNames-counted t b more is = by_case (nat_lt (b.refcount + 1) (2 ^ 62)) is
  where
    by_case : (c : Bool) → cond c (Some (changes.PutBlock (record b { refcount = b.refcount + 1 }) ∷ [])) None ≡ Some more → KeepsNames t (tables_after more t)
    by_case true made =
        let same : changes.PutBlock (record b { refcount = b.refcount + 1 }) ∷ [] ≡ more = cc made in
        subst (λ (cs : List Change). KeepsNames t (tables_after cs t)) same
        (KeepsNames-rows t t.inode_blocks (put by_block (record b { refcount = b.refcount + 1 }) t.blocks) t.objects)
    by_case false made = absurd (cc made)

pub KeepsNames-made : (t : Tables) (p : Parameters) (object size : ℕ) (digest : Digest) → t.params ≡ Some p
    → KeepsNames t (tables_after (block_made p object digest size) t)
KeepsNames-made t p object size digest made = record {
  params = sym (ap (option_map without_next_block) made);
  next_block =
      let now : next_block_of t ≡ p.next_block = ap (λ (x : Option Parameters). unwrap_or (option_map (λ (q : Parameters). q.next_block) x) 0) made in
      omega (arith, now);
  inodes = refl;
  names = refl;
  contents = refl;
  targets = refl;
  attrs = refl;
  slots = refl;
}

KeepsNames-lowered : (t u : Tables) (found : Option Block) → KeepsNames u (tables_after (lowered_block t found) u)
KeepsNames-lowered t u None = KeepsNames-refl u
KeepsNames-lowered t u (Some b) = by_case (b.refcount == 1)
  where
    by_object_found : (found : Option Object) → KeepsNames u (tables_after (changes.DeleteBlock b.id ∷ lowered_object found) u)
    by_object_found None = KeepsNames-rows u u.inode_blocks (without by_block b.id u.blocks) u.objects
    by_object_found (Some o) =
        KeepsNames-trans u (tables_after (changes.DeleteBlock b.id ∷ []) u) (tables_after (changes.DeleteBlock b.id ∷ lowered_object (Some o)) u)
        (KeepsNames-rows u u.inode_blocks (without by_block b.id u.blocks) u.objects)
        (KeepsNames-rows (tables_after (changes.DeleteBlock b.id ∷ []) u) u.inode_blocks (without by_block b.id u.blocks)
        (tables_after (changes.DeleteBlock b.id ∷ lowered_object (Some o)) u).objects)

    by_case : (c : Bool) → KeepsNames u (tables_after (cond c (changes.DeleteBlock b.id ∷ lowered_object (object_at t b.object))
        (changes.PutBlock (record b { refcount = b.refcount - 1 }) ∷ [])) u)
    by_case true = by_object_found (object_at t b.object)
    by_case false = KeepsNames-rows u u.inode_blocks (put by_block (record b { refcount = b.refcount - 1 }) u.blocks) u.objects

KeepsNames-link_set : (t : Tables) (inode blockno : ℕ) (block : Option ℕ) → KeepsNames t (tables_after (link_set inode blockno block ∷ []) t)
KeepsNames-link_set t inode blockno None =
    KeepsNames-rows t (tables_after (link_set inode blockno None ∷ []) t).inode_blocks t.blocks t.objects
KeepsNames-link_set t inode blockno (Some block) =
    KeepsNames-rows t (tables_after (link_set inode blockno (Some block) ∷ []) t).inode_blocks t.blocks t.objects

pub KeepsNames-relinked : (t : Tables) (inode blockno : ℕ) (block : Option ℕ) → KeepsNames t (tables_after (relinked t inode blockno block) t)
KeepsNames-relinked t inode blockno block = by_place (inode_block_at t inode blockno) block
  where
    by_place : (found : Option InodeBlock) (new : Option ℕ) → KeepsNames t (tables_after (link_replaced t inode blockno new found) t)
    by_place None None = KeepsNames-refl t
    by_place None (Some id) = KeepsNames-link_set t inode blockno (Some id)
    by_place (Some old) new =
        KeepsNames-trans t (tables_after (link_set inode blockno new ∷ []) t) (tables_after (link_set inode blockno new ∷ lowered_block t (block_at t old.block)) t)
        (KeepsNames-link_set t inode blockno new)
        (KeepsNames-lowered t (tables_after (link_set inode blockno new ∷ []) t) (block_at t old.block))

-- ---- the tree

module _ (t after : Tables) (k : KeepsNames t after) where
  -- what is read of parameters without the next number of a block is as before
  same_param : (f : Parameters → ℕ) → ((p : Parameters) → f (without_next_block p) ≡ f p)
      → unwrap_or (option_map f after.params) 0 ≡ unwrap_or (option_map f t.params) 0
  same_param f same =
      sym (by_case after.params) ∙ ap (λ (x : Option Parameters). unwrap_or (option_map f x) 0) k.params ∙ by_case t.params
    where
      by_case : (x : Option Parameters) → unwrap_or (option_map f (option_map without_next_block x)) 0 ≡ unwrap_or (option_map f x) 0
      by_case None = refl
      by_case (Some p) = same p

  same_nodes : (shape_of_tables after).nodes ≡ (shape_of_tables t).nodes
  same_nodes i =
      (shape_of_tables (record after { inodes = k.inodes i; names = k.names i; contents = k.contents i; targets = k.targets i; attrs = k.attrs i })).nodes

  same_shape : shape_of_tables after ≡ shape_of_tables t
  same_shape i = record {
    block_size = same_param (λ p. p.block_size) (λ p. refl) i;
    next_inode = same_param (λ p. p.next_inode) (λ p. refl) i;
    nodes = same_nodes i;
  }

  pub Represents-KeepsNames : (whole : Tree) → Represents t whole → Represents after whole
  Represents-KeepsNames whole same = same_shape ∙ same

  pub HasUniqueNames-KeepsNames : HasUniqueNames t → HasUniqueNames after
  HasUniqueNames-KeepsNames unique = ap (λ (rows : List Name). differ have_same_bytes rows) k.names ∙ unique

-- ---- rows of blocks

pub AreRowsOf-trans : (t middle after : Tables) → AreRowsOf t middle → AreRowsOf middle after → AreRowsOf t after
AreRowsOf-trans t middle after a b id r has =
    let later = b id r has in
    let first = a id later.0 later.1 in
    (first.0, first.1, later.2 ∙ first.2, later.3 ∙ first.3, later.4 ∙ first.4)

AreRowsOf-same : (t after : Tables) → after.blocks ≡ t.blocks → AreRowsOf t after
AreRowsOf-same t after same id r has = (r, sym (ap (row_at by_block id) same) ∙ has, refl, refl, refl)

-- a row with another count
AreRowsOf-put : (t after : Tables) (b : Block) (count : ℕ) → block_at t b.id ≡ Some b
    → after.blocks ≡ put by_block (record b { refcount = count }) t.blocks → AreRowsOf t after
AreRowsOf-put t after b count there is id r has =
    by_case (has_key by_block id b) refl (sym (row_at-put by_block nat_cmp_total id (record b { refcount = count }) t.blocks) ∙ sym (ap (row_at by_block id) is) ∙ has)
  where
    by_case : (c : Bool) → has_key by_block id b ≡ c → cond c (Some (record b { refcount = count })) (block_at t id) ≡ Some r
        → (old : Block) × (block_at t id ≡ Some old) × (r.digest ≡ old.digest) × (r.size ≡ old.size) × (r.object ≡ old.object)
    by_case true own found =
        let same : record b { refcount = count } ≡ r = cc found in
        (b, ap (block_at t) (one_number id b.id own) ∙ there, sym (ap (λ (x : Block). x.digest) same), sym (ap (λ (x : Block). x.size) same), sym (ap (λ (x : Block). x.object) same))
    by_case false own found = (r, found, refl, refl, refl)

AreRowsOf-without : (t after : Tables) (id : ℕ) → after.blocks ≡ without by_block id t.blocks → AreRowsOf t after
AreRowsOf-without t after gone is id r has =
    by_case (is_eq (by_block.compare gone id)) (sym (row_at-without by_block nat_cmp_total gone id t.blocks) ∙ sym (ap (row_at by_block id) is) ∙ has)
  where
    by_case : (c : Bool) → cond c None (block_at t id) ≡ Some r
        → (old : Block) × (block_at t id ≡ Some old) × (r.digest ≡ old.digest) × (r.size ≡ old.size) × (r.object ≡ old.object)
    by_case true found = absurd (cc found)
    by_case false found = (r, found, refl, refl, refl)

pub AreRowsOf-counted : (t : Tables) (b : Block) (more : List Change) → block_at t b.id ≡ Some b → counted_block (Some b) ≡ Some more
    → AreRowsOf t (tables_after more t)
AreRowsOf-counted t b more there is = by_case (nat_lt (b.refcount + 1) (2 ^ 62)) is
  where
    by_case : (c : Bool) → cond c (Some (changes.PutBlock (record b { refcount = b.refcount + 1 }) ∷ [])) None ≡ Some more → AreRowsOf t (tables_after more t)
    by_case true made =
        let same : changes.PutBlock (record b { refcount = b.refcount + 1 }) ∷ [] ≡ more = cc made in
        subst (λ (cs : List Change). AreRowsOf t (tables_after cs t)) same
        (AreRowsOf-put t (tables_after (changes.PutBlock (record b { refcount = b.refcount + 1 }) ∷ []) t) b (b.refcount + 1) there refl)
    by_case false made = absurd (cc made)

AreRowsOf-lowered : (t : Tables) (places : List InodeBlock) (id : ℕ)
    → AreRowsOf t (tables_after (lowered_block t (block_at t id)) (record t { inode_blocks = places }))
AreRowsOf-lowered t places id = by_block_found (block_at t id) refl
  where
    by_object_found : (b : Block) (found : Option Object)
        → AreRowsOf t (tables_after (changes.DeleteBlock b.id ∷ lowered_object found) (record t { inode_blocks = places }))
    by_object_found b None = AreRowsOf-without t (tables_after (changes.DeleteBlock b.id ∷ []) (record t { inode_blocks = places })) b.id refl
    by_object_found b (Some o) =
        AreRowsOf-without t (tables_after (changes.DeleteBlock b.id ∷ lowered_object (Some o)) (record t { inode_blocks = places })) b.id refl

    by_count : (b : Block) → block_at t b.id ≡ Some b → (c : Bool)
        → AreRowsOf t (tables_after (cond c (changes.DeleteBlock b.id ∷ lowered_object (object_at t b.object))
        (changes.PutBlock (record b { refcount = b.refcount - 1 }) ∷ [])) (record t { inode_blocks = places }))
    by_count b there true = by_object_found b (object_at t b.object)
    by_count b there false =
        AreRowsOf-put t (tables_after (changes.PutBlock (record b { refcount = b.refcount - 1 }) ∷ []) (record t { inode_blocks = places })) b
        (b.refcount - 1) there refl

    by_block_found : (found : Option Block) → block_at t id ≡ found
        → AreRowsOf t (tables_after (lowered_block t found) (record t { inode_blocks = places }))
    by_block_found None has = AreRowsOf-same t (record t { inode_blocks = places }) refl
    by_block_found (Some b) has =
        by_count b (ap (block_at t) (sym (one_number id b.id (ap is_eq (row_at_key by_block id t.blocks b has)))) ∙ has) (b.refcount == 1)

pub AreRowsOf-relinked : (t : Tables) (inode blockno : ℕ) (block : Option ℕ) → AreRowsOf t (tables_after (relinked t inode blockno block) t)
AreRowsOf-relinked t inode blockno block = by_place (inode_block_at t inode blockno) block
  where
    by_place : (found : Option InodeBlock) (new : Option ℕ) → AreRowsOf t (tables_after (link_replaced t inode blockno new found) t)
    by_place None None = AreRowsOf-same t t refl
    by_place None (Some id) = AreRowsOf-same t (tables_after (link_set inode blockno (Some id) ∷ []) t) refl
    by_place (Some old) None = AreRowsOf-lowered t (tables_after (link_set inode blockno None ∷ []) t).inode_blocks old.block
    by_place (Some old) (Some id) = AreRowsOf-lowered t (tables_after (link_set inode blockno (Some id) ∷ []) t).inode_blocks old.block
