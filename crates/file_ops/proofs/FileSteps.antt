-- A file that does not get shorter, and the tables in which its blocks can be placed.
use Rattle.std.proofs.Common.{◌≡◌, ℕ, ◌*◌, ◌^◌, ◌<◌, ◌≤◌, List, [], ◌∷◌, length, Bool, true, false, Option, None, Some, Result, Ok, Err, refl, sym, ap, ◌∙◌, subst, arith, get_or}
use Rattle.std.specs.Prelude.{◌==◌, All, IfErr, IfOk, IsTrue, nat_le, nat_lt}
use Rattle.std.specs.List.{list_all}
use Rattle.std.proofs.Math.Nat.{mul-le-mul_left}
use Rattle.std.proofs.lemmas.Bool.{and_from}
use Rattle.std.proofs.lemmas.Bool.Decides.{nat_tests}
use Rattle.std.proofs.lemmas.Cmp.{nat_cmp_total}
use Rattle.std.proofs.lemmas.List.Elements.{All-head, All-tail, All-weaker}
use Rattle.s3_base.specs.declared.node_kind.Kind.TheVariants as kinds
use Rattle.s3_rows.specs.declared.change.Change.{Change}
use Rattle.s3_rows.specs.declared.change.Change.TheVariants as changes
use Rattle.s3_rows.specs.declared.digest.Digest.{Digest}
use Rattle.s3_rows.specs.Rows.{Inode, Parameters}
use Rattle.s3_rows.specs.Tables.{Tables, by_inode}
use Rattle.s3_rows.specs.Batches.{after_change, tables_after}
use Rattle.s3_rows.specs.Selections.{inode_at}
use Rattle.s3_rows.specs.Told.{IfTold, Told}
use Rattle.s3_rows.specs.Validity.{IsValid, differ, is_in_file, is_regular}
use Rattle.s3_devices.specs.Objects.{Objects}
use Rattle.s3_devices.specs.Told.{Becomes}
use Rattle.tree_rows.specs.Contents.{Contents, HaveBytes}
use Rattle.tree_rows.specs.Spots.{form_at}
use Rattle.block_steps.specs.Owed.{KeepsNames}
use Rattle.row_lemmas.proofs.Keyed.Put.{row_at-put_same}
use Rattle.ref_counts.proofs.Told.{IfTold-weaker}
use Rattle.file_ops.specs.declared.new_block.NewBlock.{NewBlock}
use Rattle.file_ops.specs.declared.file_fault.FileFault.{FileFault}
use Rattle.file_ops.specs.declared.file_fault.FileFault.TheVariants as faults
use Rattle.file_ops.specs.FileChanges.{AreInFile, AreWithin, IsFileAt, with_length}
use Rattle.file_ops.specs.FileFaults.{IsLossWhere, is_lost}
use Rattle.file_ops.specs.NewBlocks.{AreShort}
use Rattle.file_ops.specs.Placed.{ArePlaceable, ArePlaced, ArePrepared, HaveTheirForms, KnowsBlocks}

lt_test : (a b : ℕ) → a < b → nat_lt a b ≡ true
lt_test a b less = grind (arith, nat_tests)

le_test : (a b : ℕ) → a ≤ b → nat_le a b ≡ true
le_test a b less = grind (arith, nat_tests)

below_more : (a b c : ℕ) → a < b → b ≤ c → a < c
below_more a b c less most = omega arith

-- a test of each block, from a fact of each
list_all-from_All : (P : NewBlock → Type 0) (test : NewBlock → Bool) → ((b : NewBlock) → P b → test b ≡ true) → (blocks : List NewBlock) → All P blocks
    → list_all test blocks ≡ true
list_all-from_All P test follows [] all = refl
list_all-from_All P test follows (b ∷ bs) all =
    and_from (test b) (list_all test bs) (follows b (All-head P b bs all)) (list_all-from_All P test follows bs (All-tail P b bs all))

-- where a batch leaves blocks alone, and a file then has its blocks within it, they can be placed
module _ (t : Tables) (batch : List Change) (row : Inode) (id block_size : ℕ) (blocks : List NewBlock) (valid : IsValid (tables_after batch t)) (file_valid : IsValid t)
    (params : (tables_after batch t).params ≡ t.params) (there : inode_at (tables_after batch t) id ≡ Some row) (regular : row.kind ≡ kinds.Regular)
    (sized : file_valid.params.block_size ≡ block_size) (within : All (λ b. b.blockno * block_size < row.size) blocks) (short : AreShort block_size blocks) where
  abbrev is_any : Option Inode → Bool
  is_any found = elim found [ Some r ↦ is_regular r.kind | None ↦ false ]

  abbrev is_inside : ℕ → Option Inode → Bool
  is_inside n found = elim found [ Some r ↦ nat_lt (n * valid.params.block_size) r.size | None ↦ false ]

  same_params : valid.params ≡ file_valid.params
  same_params = let both : Some valid.params ≡ Some file_valid.params = sym valid.is_made ∙ params ∙ file_valid.is_made in cc both

  same_size : valid.params.block_size ≡ block_size
  same_size = ap (λ (p : Parameters). p.block_size) same_params ∙ sized

  pub can_be_placed : (tables_after batch t).blocks ≡ t.blocks → (tables_after batch t).objects ≡ t.objects → IsTrue (differ (λ a b. b.blockno == a.blockno) blocks)
      → ArePlaceable t batch id blocks
  can_be_placed blocks_stay objects_stay distinct = record {
    valid = valid;
    params = params;
    blocks_stay = blocks_stay;
    objects_stay = objects_stay;
    regular = ap is_any there ∙ ap is_regular regular;
    within =
        list_all-from_All (λ b. b.blockno * block_size < row.size) (λ b. is_in_file (tables_after batch t) valid.params id b.blockno)
        (λ b less. ap (is_inside b.blockno) there ∙ lt_test (b.blockno * valid.params.block_size) row.size (subst (λ n. b.blockno * n < row.size) (sym same_size) less)) blocks within;
    sizes =
        list_all-from_All (λ b. length b.stored ≤ block_size) (λ b. nat_le (length b.stored) valid.params.block_size)
        (λ b less. le_test (length b.stored) valid.params.block_size (subst (λ n. length b.stored ≤ n) (sym same_size) less)) blocks short;
    distinct = distinct;
  }

-- the row of the file is put before
pub placeable : (t : Tables) (file : Inode) (size now block_size : ℕ) (blocks : List NewBlock) → IsFileAt t file block_size
    → IsValid (after_change (changes.PutInode (with_length size now file)) t) → AreWithin size block_size blocks
    → ArePlaceable t (changes.PutInode (with_length size now file) ∷ []) file.id blocks
placeable t file size now block_size blocks there valid are =
    can_be_placed t (changes.PutInode (with_length size now file) ∷ []) (with_length size now file) file.id block_size blocks valid there.valid refl
    (row_at-put_same by_inode nat_cmp_total (with_length size now file) t.inodes) there.regular there.size are.within are.short refl refl are.distinct

-- nothing is done before
pub placeable_first : (t : Tables) (file : Inode) (size block_size : ℕ) (blocks : List NewBlock) → IsFileAt t file block_size → size ≤ file.size → AreWithin size block_size blocks
    → ArePlaceable t [] file.id blocks
placeable_first t file size block_size blocks there less are =
    can_be_placed t [] file file.id block_size blocks there.valid there.valid refl there.there there.regular there.size
    (All-weaker (λ b. b.blockno * block_size < size) (λ b. b.blockno * block_size < file.size) (λ b low. below_more (b.blockno * block_size) size file.size low less) blocks are.within)
    are.short refl refl are.distinct

-- what does not depend on the tables, and is so where they are told, is so after a call
pub IfTold-after : (R : Told → Told → Type 0) (X : Type 0) (before after : Option Told) → Becomes R before after → IfTold before (λ t. X) → IfTold after (λ t. X)
IfTold-after R X None None fact x = tt
IfTold-after R X None (Some b) fact x = absurd (cc fact)
IfTold-after R X (Some a) None fact x = tt
IfTold-after R X (Some a) (Some b) fact x = x

-- the row that a file has from now on is put, and its blocks can be placed
pub record LongerLaws : Type 0 where
  pub longer : (t : Tables) (p : Parameters) (r new : Inode) → IsValid t → t.params ≡ Some p → inode_at t new.id ≡ Some r → r.kind ≡ kinds.Regular
      → new.kind ≡ r.kind → new.refcount ≡ r.refcount → t.slots ≡ [] → r.size ≤ new.size → IsValid (after_change (changes.PutInode new) t)
  pub forms : (t : Tables) (new : Inode) (inode blockno : ℕ) → form_at (after_change (changes.PutInode new) t) inode blockno ≡ form_at t inode blockno

module _ (laws : LongerLaws) (digest_of : List ℕ → List ℕ) (t : Tables) (batch now_is : List Change) (file : Inode) (id size now block_size : ℕ) (blocks : List NewBlock)
    (own : id ≡ file.id) (put : batch ≡ changes.PutInode (with_length size now file) ∷ []) (there : IsFileAt t file block_size) (grows : file.size ≤ size) (are : AreWithin size block_size blocks) where
  pub placeable_row : ArePlaceable t batch id blocks
  placeable_row =
      subst (λ (n : ℕ). ArePlaceable t batch n blocks) (sym own)
      (subst (λ (b : List Change). ArePlaceable t b file.id blocks) (sym put)
      (placeable t file size now block_size blocks there
      (laws.longer t there.valid.params file (with_length size now file) there.valid there.valid.is_made there.there there.regular refl refl there.slots grows) are))

  pub placed_in_file : (ArePlaceable t batch id blocks → ArePlaced (tables_after batch t) (tables_after now_is t) id blocks)
      → (ArePlaceable t batch id blocks → (m : Contents) → HaveBytes m t.blocks → KnowsBlocks digest_of m blocks
      → HaveTheirForms digest_of (tables_after now_is t) id blocks × HaveBytes m (tables_after now_is t).blocks)
      → AreInFile digest_of t (tables_after now_is t) (with_length size now file) block_size blocks
  placed_in_file places forms =
      let placed : ArePlaced (tables_after batch t) (tables_after now_is t) file.id blocks =
      subst (λ (n : ℕ). ArePlaced (tables_after batch t) (tables_after now_is t) n blocks) own (places placeable_row) in
      record {
        step = record { valid = placed.valid; names = subst (λ (b : List Change). KeepsNames (tables_after b t) (tables_after now_is t)) put placed.names };
        elsewhere =
            λ other number none within.
            placed.elsewhere other number none ∙ ap (λ (b : List Change). form_at (tables_after b t) other number) put ∙ laws.forms t (with_length size now file) other number;
        forms =
            subst
            (λ (n : ℕ). (m : Contents) → HaveBytes m t.blocks → KnowsBlocks digest_of m blocks → HaveTheirForms digest_of (tables_after now_is t) n blocks × HaveBytes m (tables_after now_is t).blocks)
            own (forms placeable_row);
      }

-- bytes that are not lost are no loss
pub no_loss : (Names : Tables → ℕ → Digest → Type 0) (digest_of : List ℕ → List ℕ) (tables : Option Told) (objects : Option Objects) {T : Type 0} (r : Result T FileFault)
    → is_lost r ≡ false → IfErr r (IsLossWhere Names digest_of tables objects)
no_loss Names digest_of tables objects (Ok x) none = tt
no_loss Names digest_of tables objects (Err (faults.Lost object kept got)) none = absurd (cc none)
no_loss Names digest_of tables objects (Err faults.Keeper) none = tt
no_loss Names digest_of tables objects (Err faults.Link) none = tt
no_loss Names digest_of tables objects (Err faults.Worn) none = tt
no_loss Names digest_of tables objects (Err faults.Memory) none = tt

pub IfOk-weaker : {T E : Type 0} (P Q : T → Type 0) → ((x : T) → P x → Q x) → (r : Result T E) → IfOk r P → IfOk r Q
IfOk-weaker P Q follows (Ok x) p = follows x p
IfOk-weaker P Q follows (Err e) p = tt

-- ---- ranges

number_short : (n size end : ℕ) → 4096 ≤ size → end ≤ 2 ^ 50 → n * size < end → n < 2 ^ 38
number_short n size end least most less =
    let more : n * 4096 ≤ n * size = mul-le-mul_left n least in
    omega (arith, more, most, less)

-- numbers of blocks within a file
pub numbers_short : (size end : ℕ) (blocks : List NewBlock) → 4096 ≤ size → end ≤ 2 ^ 50 → All (λ b. b.blockno * size < end) blocks → All (λ b. b.blockno < 2 ^ 38) blocks
numbers_short size end blocks least most all = λ k d low. number_short (get_or blocks k d).blockno size end least most (all k d low)

pub stored_short : (size most : ℕ) (blocks : List NewBlock) → size ≤ most → AreShort size blocks → All (λ b. length b.stored ≤ most) blocks
stored_short size most blocks less all =
    λ k d low.
    let own : length (get_or blocks k d).stored ≤ size = all k d low in
    omega (arith, own, less)

-- ---- what a call that placed the blocks of a file did

-- the blocks lie within the file, where keepers are told
pub all_within : (before after : Option Told) (size block_size : ℕ) (blocks : List NewBlock) → Becomes ArePrepared before after → All (λ b. b.blockno * block_size < size) blocks → AreShort block_size blocks
    → IfTold before (λ t. IsTrue (differ (λ a b. b.blockno == a.blockno) blocks)) → IfTold after (λ t. AreWithin size block_size blocks)
all_within before after size block_size blocks prepared within short distinct =
    IfTold-after ArePrepared (AreWithin size block_size blocks) before after prepared
    (IfTold-weaker before _ _ (λ t differs. record { within = within; short = short; distinct = differs }) distinct)
