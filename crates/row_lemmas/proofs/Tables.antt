-- What changes and batches make of the nine tables.
use Rattle.std.proofs.Common.{false, ◌≡◌, ℕ, zero, suc, ◌+◌, ◌^◌, ◌<◌, List, [], ◌∷◌, ◌++◌, length, Option, None, Some, refl, ap, ◌∙◌, arith}
use Rattle.std.specs.Cmp.{IsTotalOrder, nat_cmp_total, on_total, then_total}
use Rattle.s3_rows.specs.declared.change.Change.{Change}
use Rattle.s3_rows.specs.declared.change.Change.TheVariants as changes
use Rattle.std.specs.Prelude.{◌==◌, ◌||◌, find, option_map}
use Rattle.s3_rows.specs.Rows.{Content}
use Rattle.s3_rows.specs.Keyed.{pair_cmp}
use Rattle.s3_rows.specs.Tables.{Tables, IsOrdered, by_inode, by_name, by_entry, by_spot, by_block, by_object, by_target, by_attr, by_slot}
use Rattle.s3_rows.specs.Batches.{after_change, finds_row, tables_after, tables_after_all}
use Rattle.s3_base.specs.Numbers.{root}
use Rattle.s3_rows.specs.Validity.{parent_of, leads_to_root}
use Rattle.s3_rows.specs.Told.{Told, one_more, with_batch, with_batches}
use Rattle.row_lemmas.proofs.Keyed.Put.{rises-put, put-put}
use Rattle.row_lemmas.proofs.Keyed.Rises.{rises-without}
use Rattle.row_lemmas.proofs.Keyed.Without.{without-without, without_none}

pub pair_cmp_total : IsTotalOrder pair_cmp
pair_cmp_total =
    then_total (on_total (λ (p : ℕ × ℕ). p.0) nat_cmp_total) (on_total (λ (p : ℕ × ℕ). p.1) nat_cmp_total)

pub tables_after-tables_after : (first second : List Change) (t : Tables)
    → tables_after second (tables_after first t) ≡ tables_after (first ++ second) t
tables_after-tables_after [] second t = refl
tables_after-tables_after (c ∷ cs) second t = tables_after-tables_after cs second (after_change c t)

pub after_change-after_change : (change : Change) (t : Tables)
    → after_change change (after_change change t) ≡ after_change change t
after_change-after_change (changes.PutInode r) t =
    ap (λ rows. record t { inodes = rows }) (put-put by_inode nat_cmp_total r t.inodes)
after_change-after_change (changes.DeleteInode id) t =
    ap (λ rows. record t { inodes = rows }) (without-without by_inode id t.inodes)
after_change-after_change (changes.PutName r) t =
    ap (λ rows. record t { names = rows }) (put-put by_name nat_cmp_total r t.names)
after_change-after_change (changes.DeleteName id) t =
    ap (λ rows. record t { names = rows }) (without-without by_name id t.names)
after_change-after_change (changes.PutContent r) t =
    ap (λ rows. record t { contents = rows }) (put-put by_entry pair_cmp_total r t.contents)
after_change-after_change (changes.DeleteContent parent name_id) t =
    ap (λ rows. record t { contents = rows }) (without-without by_entry (parent, name_id) t.contents)
after_change-after_change (changes.PutInodeBlock r) t =
    ap (λ rows. record t { inode_blocks = rows }) (put-put by_spot pair_cmp_total r t.inode_blocks)
after_change-after_change (changes.DeleteInodeBlock inode blockno) t =
    ap (λ rows. record t { inode_blocks = rows }) (without-without by_spot (inode, blockno) t.inode_blocks)
after_change-after_change (changes.PutBlock r) t =
    ap (λ rows. record t { blocks = rows }) (put-put by_block nat_cmp_total r t.blocks)
after_change-after_change (changes.DeleteBlock id) t =
    ap (λ rows. record t { blocks = rows }) (without-without by_block id t.blocks)
after_change-after_change (changes.PutObject r) t =
    ap (λ rows. record t { objects = rows }) (put-put by_object nat_cmp_total r t.objects)
after_change-after_change (changes.DeleteObject id) t =
    ap (λ rows. record t { objects = rows }) (without-without by_object id t.objects)
after_change-after_change (changes.PutTarget r) t =
    ap (λ rows. record t { targets = rows }) (put-put by_target nat_cmp_total r t.targets)
after_change-after_change (changes.DeleteTarget inode) t =
    ap (λ rows. record t { targets = rows }) (without-without by_target inode t.targets)
after_change-after_change (changes.PutAttr r) t =
    ap (λ rows. record t { attrs = rows }) (put-put by_attr pair_cmp_total r t.attrs)
after_change-after_change (changes.DeleteAttr inode name_id) t =
    ap (λ rows. record t { attrs = rows }) (without-without by_attr (inode, name_id) t.attrs)
after_change-after_change (changes.PutSlot r) t =
    ap (λ rows. record t { slots = rows }) (put-put by_slot nat_cmp_total r t.slots)
after_change-after_change (changes.DeleteSlot slot) t =
    ap (λ rows. record t { slots = rows }) (without-without by_slot slot t.slots)
after_change-after_change (changes.SetParams p) t = refl

-- ---- rows in the order of their keys

pub IsOrdered-after_change : (change : Change) (t : Tables) → IsOrdered t → IsOrdered (after_change change t)
IsOrdered-after_change (changes.PutInode r) t o = assumption (o, rises-put by_inode nat_cmp_total r t.inodes o.inodes)
IsOrdered-after_change (changes.DeleteInode id) t o = assumption (o, rises-without by_inode id t.inodes o.inodes)
IsOrdered-after_change (changes.PutName r) t o = assumption (o, rises-put by_name nat_cmp_total r t.names o.names)
IsOrdered-after_change (changes.DeleteName id) t o = assumption (o, rises-without by_name id t.names o.names)
IsOrdered-after_change (changes.PutContent r) t o =
    assumption (o, rises-put by_entry pair_cmp_total r t.contents o.contents)
IsOrdered-after_change (changes.DeleteContent parent name_id) t o =
    assumption (o, rises-without by_entry (parent, name_id) t.contents o.contents)
IsOrdered-after_change (changes.PutInodeBlock r) t o =
    assumption (o, rises-put by_spot pair_cmp_total r t.inode_blocks o.inode_blocks)
IsOrdered-after_change (changes.DeleteInodeBlock inode blockno) t o =
    assumption (o, rises-without by_spot (inode, blockno) t.inode_blocks o.inode_blocks)
IsOrdered-after_change (changes.PutBlock r) t o = assumption (o, rises-put by_block nat_cmp_total r t.blocks o.blocks)
IsOrdered-after_change (changes.DeleteBlock id) t o = assumption (o, rises-without by_block id t.blocks o.blocks)
IsOrdered-after_change (changes.PutObject r) t o =
    assumption (o, rises-put by_object nat_cmp_total r t.objects o.objects)
IsOrdered-after_change (changes.DeleteObject id) t o = assumption (o, rises-without by_object id t.objects o.objects)
IsOrdered-after_change (changes.PutTarget r) t o =
    assumption (o, rises-put by_target nat_cmp_total r t.targets o.targets)
IsOrdered-after_change (changes.DeleteTarget inode) t o =
    assumption (o, rises-without by_target inode t.targets o.targets)
IsOrdered-after_change (changes.PutAttr r) t o = assumption (o, rises-put by_attr pair_cmp_total r t.attrs o.attrs)
IsOrdered-after_change (changes.DeleteAttr inode name_id) t o =
    assumption (o, rises-without by_attr (inode, name_id) t.attrs o.attrs)
IsOrdered-after_change (changes.PutSlot r) t o = assumption (o, rises-put by_slot nat_cmp_total r t.slots o.slots)
IsOrdered-after_change (changes.DeleteSlot slot) t o = assumption (o, rises-without by_slot slot t.slots o.slots)
IsOrdered-after_change (changes.SetParams p) t o = assumption o

pub IsOrdered-tables_after : (batch : List Change) (t : Tables) → IsOrdered t → IsOrdered (tables_after batch t)
IsOrdered-tables_after [] t o = o
IsOrdered-tables_after (c ∷ cs) t o = IsOrdered-tables_after cs (after_change c t) (IsOrdered-after_change c t o)

pub after_change_none : (change : Change) (t : Tables) → finds_row change t ≡ false → after_change change t ≡ t
after_change_none (changes.DeleteInode id) t none =
    ap (λ rows. record t { inodes = rows }) (without_none by_inode id t.inodes none)
after_change_none (changes.DeleteName id) t none =
    ap (λ rows. record t { names = rows }) (without_none by_name id t.names none)
after_change_none (changes.DeleteContent parent name_id) t none =
    ap (λ rows. record t { contents = rows }) (without_none by_entry (parent, name_id) t.contents none)
after_change_none (changes.DeleteInodeBlock inode blockno) t none =
    ap (λ rows. record t { inode_blocks = rows }) (without_none by_spot (inode, blockno) t.inode_blocks none)
after_change_none (changes.DeleteBlock id) t none =
    ap (λ rows. record t { blocks = rows }) (without_none by_block id t.blocks none)
after_change_none (changes.DeleteObject id) t none =
    ap (λ rows. record t { objects = rows }) (without_none by_object id t.objects none)
after_change_none (changes.DeleteTarget inode) t none =
    ap (λ rows. record t { targets = rows }) (without_none by_target inode t.targets none)
after_change_none (changes.DeleteAttr inode name_id) t none =
    ap (λ rows. record t { attrs = rows }) (without_none by_attr (inode, name_id) t.attrs none)
after_change_none (changes.DeleteSlot slot) t none =
    ap (λ rows. record t { slots = rows }) (without_none by_slot slot t.slots none)
after_change_none _ t none = absurd (cc none)

-- ---- steps to the root, of which only the entries tell

pub leads_to_root_same : (t u : Tables) → u.contents ≡ t.contents → (steps id : ℕ) → leads_to_root steps u id ≡ leads_to_root steps t id
leads_to_root_same t u same zero id = refl
leads_to_root_same t u same (suc steps) id =
    ap (λ (rows : List Content). id == root || elim (option_map (λ r. r.parent) (find (λ r. r.inode == id) rows)) [ Some x ↦ leads_to_root steps u x | None ↦ false ]) same
    ∙ by_case (leads_to_root_same t u same steps) (parent_of t id)
  where
    by_case : ((x : ℕ) → leads_to_root steps u x ≡ leads_to_root steps t x) → (parent : Option ℕ)
        → (id == root || elim parent [ Some x ↦ leads_to_root steps u x | None ↦ false ]) ≡ (id == root || elim parent [ Some x ↦ leads_to_root steps t x | None ↦ false ])
    by_case rest None = refl
    by_case rest (Some x) = ap (λ b. id == root || b) (rest x)

-- ---- what a keeper tells after batches

pub tables-with_batches : (s : Told) (batches : List (List Change))
    → (with_batches batches s).tables ≡ tables_after_all batches s.tables
tables-with_batches s [] = refl
tables-with_batches s (b ∷ bs) = tables-with_batches (with_batch b s) bs

pub commits-with_batches : (s : Told) (batches : List (List Change)) → s.commits + length batches < 2 ^ 64
    → (with_batches batches s).commits ≡ s.commits + length batches
commits-with_batches s [] few = omega arith
commits-with_batches s (b ∷ bs) few =
    let later : one_more s.commits + length bs < 2 ^ 64 = omega (arith, few) in
    let rest : (with_batches bs (with_batch b s)).commits ≡ one_more s.commits + length bs =
    commits-with_batches (with_batch b s) bs later in
    omega (arith, few, rest)
