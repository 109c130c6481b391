-- An entry that goes from a directory that is not touched, and the inode that it names: its rows are a step.
use Rattle.std.proofs.Common.{◌≡◌, ℕ, ◌+◌, ◌-◌, List, [], ◌∷◌, Bool, true, false, cond, Option, None, Some, refl, sym, ap, ◌∙◌, subst, arith, eqb-true, eq-eqb}
use Rattle.std.proofs.lemmas.Bool.{and_parts}
use Rattle.std.specs.Prelude.{IsTrue, not, ◌||◌, ◌==◌, is_some, nat_lt, option_map, unwrap_or}
use Rattle.std.specs.List.{list_all, list_any}
use Rattle.std.specs.Cmp.{nat_cmp_total, tied_itself}
use Rattle.s3_base.specs.Numbers.{root}
use Rattle.s3_base.specs.declared.node_kind.Kind.{Kind}
use Rattle.s3_base.specs.declared.node_kind.Kind.TheVariants as kinds
use Rattle.plain_tree.specs.Entries.{drop_entry, entry_at, is_named, is_open, lives, settled, unnamed}
use Rattle.plain_tree.specs.Tree.{Node, Tree, change_node, stamped, touched, without_node}
use Rattle.plain_tree.specs.WellFormed.{IsWellFormed}
use Rattle.s3_rows.specs.declared.change.Change.TheVariants as changes
use Rattle.s3_rows.specs.Rows.{Content, Inode, InodeBlock, Name, Parameters, Slot}
use Rattle.s3_rows.specs.Keyed.{has_key, put, without}
use Rattle.s3_rows.specs.Tables.{Tables, by_entry, by_inode, by_name}
use Rattle.s3_rows.specs.Batches.{tables_after}
use Rattle.s3_rows.specs.Selections as selections
use Rattle.s3_rows.specs.Selections.{block_at, bytes_of_name, inode_at, name_at}
use Rattle.s3_rows.specs.Counts.{listed_inode_count}
use Rattle.s3_rows.specs.Validity.{IsValid, HasUniqueNames, any_kind, finds_of_entry, finds_of_inode_block, has_inode, is_directory, is_regular}
use Rattle.row_lemmas.proofs.Tests.{find_passes, find_passes_all, list_all_weaker, list_any_from_find}
use Rattle.row_lemmas.proofs.Keyed.Put.{put-put_same, put_same, rises-put, row_at-put_same}
use Rattle.row_lemmas.proofs.Keyed.Rest.{length-without}
use Rattle.row_lemmas.proofs.Keyed.Without.{list_all-without}
use Rattle.row_lemmas.proofs.Tables.{tables_after-tables_after}
use Rattle.tree_laws.proofs.Node.Kind.{none_from}
use Rattle.tree_rows.specs.Shapes.{Represents}
use Rattle.tree_rows.proofs.Listed.{is_entry}
use Rattle.tree_rows.proofs.Replaced.{replaced_represents}
use Rattle.tree_rows.proofs.Rooted.{own_entry}
use Rattle.tree_rows.proofs.Whole.{entry_found, number_of}
use Rattle.ref_counts.specs.Links.{places_from}
use Rattle.ref_counts.specs.Names.{lowered}
use Rattle.ref_counts.specs.Plans.{IsStep}
use Rattle.ref_counts.specs.Removals.{removal}
use Rattle.block_steps.proofs.DroppedPlaces.{IsValid-places_dropped, params-places_dropped}
use Rattle.block_steps.proofs.KeptNames.{Represents-KeepsNames}
use Rattle.row_steps.specs.Owed.{IsBare, Owes, owes_links, times}
use Rattle.row_steps.specs.RowChanges.{counted_row, touched_row}
use Rattle.row_steps.proofs.Less.{IsLess, IsStep-less}
use Rattle.row_steps.proofs.Living.{FindsChildren, FindsChildren-IsValid, FindsChildren-put, is_named-owes, is_open-change_node, some_left, without_node-change_node}
use Rattle.row_steps.proofs.OldFiles.{no_entries}
use Rattle.row_steps.proofs.Owed.Contents.{Owes-without_content}
use Rattle.row_steps.proofs.Owed.Ends.{Owes-IsValid}
use Rattle.row_steps.proofs.Owed.Inodes.{Owes-put_inode_less, one_number, times_first, times_other}
use Rattle.row_steps.proofs.Owed.Lowered.{IsLower, IsLower-lowered}
use Rattle.row_steps.proofs.Removing.{HasUniqueNames-removal, Owes-removal, Represents-removal, apart_by_kind, attrs-removal, gone, tables_after-removal}
use Rattle.row_steps.proofs.Shape.Deletes.{Represents-without_content}
use Rattle.row_steps.proofs.WithPlaces.{IsStep-gone, after_removal-cleared, cleared, entry_at-cleared, inode_at-cleared, inode_at-removal, name_at-cleared, names-cleared, no_places}
use Rattle.immutable_trees.specs.RemovedRows.{file_taken, folder_taken, taking}
use Rattle.immutable_trees.proofs.LostEntry.{less, lose, twice_changed}

-- the rows of an entry
pub record IsTaking (t : Tables) (whole : Tree) (p : Parameters) (d r : Inode) (c : Content) (n : Name) : Type 0 where
  pub valid : IsValid t
  pub same : Represents t whole
  pub params : t.params ≡ Some p
  pub found : inode_at t c.parent ≡ Some d
  pub kind : d.kind ≡ kinds.Directory
  pub entry : selections.entry_at t c.parent c.name_id ≡ Some c
  pub named : name_at t c.name_id ≡ Some n
  pub child : inode_at t c.inode ≡ Some r

module _ (t : Tables) (whole : Tree) (p : Parameters) (d r : Inode) (c : Content) (n : Name) (now : ℕ) (is : IsTaking t whole p d r c n) where
  owes : Owes t p [] []
  owes = Owes-IsValid t p is.valid is.params

  number : c.parent ≡ d.id
  number = number_of t c.parent d is.found

  there : inode_at t d.id ≡ Some d
  there = ap (inode_at t) (sym number) ∙ is.found

  bytes_are : bytes_of_name t c.name_id ≡ n.name
  bytes_are = ap (λ (found : Option Name). unwrap_or (option_map (λ x. x.name) found) []) is.named

  -- the tree has the entry
  pub entry_is : entry_at whole c.parent n.name ≡ Some c.inode
  entry_is = ap (entry_at whole c.parent) (sym bytes_are) ∙ own_entry t is.valid whole is.same (has_key by_entry (c.parent, c.name_id)) c is.entry

  pub child_number : c.inode ≡ r.id
  child_number = number_of t c.inode r is.child

  pub child_there : inode_at t r.id ≡ Some r
  child_there = ap (inode_at t) (sym child_number) ∙ is.child

  not_root : (c.inode == root) ≡ false
  not_root = by_case (c.inode == root) refl
    where
      by_case : (b : Bool) → (c.inode == root) ≡ b → b ≡ false
      by_case true here =
          let any : IsTrue (list_any (λ (x : Content). x.inode == root) t.contents) =
          list_any_from_find (has_key by_entry (c.parent, c.name_id)) (λ (x : Content). x.inode == root) t.contents c is.entry here in
          let clash : false ≡ true = sym (ap not any) ∙ is.valid.tree.root_is_unnamed in
          absurd (cc clash)
      by_case false here = refl

  -- ---- the tables without the entry

  id_is : c.name_id ≡ n.id
  id_is = one_number c.name_id n.id (find_passes (has_key by_name c.name_id) t.names n is.named)

  abbrev pub unlisted : Tables
  unlisted = record t { contents = without by_entry (c.parent, c.name_id) t.contents }

  pub lower : IsLower unlisted p (c.inode ∷ []) [] (lowered n)
  lower =
      IsLower-lowered unlisted p n (c.inode ∷ []) []
      (subst (λ id. Owes unlisted p (c.inode ∷ []) (id ∷ [])) id_is (Owes-without_content t p c [] [] owes is.entry not_root)) (ap (name_at t) (sym id_is) ∙ is.named)

  abbrev pub cut : Tables
  cut = tables_after (taking c n) t

  pub cut_is : cut ≡ record unlisted { names = lower.rows }
  cut_is = lower.after

  pub Owes-cut : Owes cut p (c.inode ∷ []) []
  Owes-cut = subst (λ (u : Tables). Owes u p (c.inode ∷ []) []) (sym cut_is) lower.owes

  abbrev pub one : Tree
  one = less d.mtime d.ctime c.parent n.name whole

  -- the directory's row stays as it was, so it is put back after a touch
  Represents-unlisted : Represents unlisted one
  Represents-unlisted =
      let bytes : List ℕ = bytes_of_name t c.name_id in
      let touched_rows : Tables = record unlisted { inodes = put by_inode (touched_row now d) t.inodes } in
      let dropped : Tree = drop_entry d.id bytes now whole in
      let times : Node → Node = λ node. record node { mtime = d.mtime; ctime = d.ctime } in
      let first : Represents touched_rows dropped =
      Represents-without_content t c owes.ordered.contents owes.unlike is.entry (ap is_some is.named) whole d now owes.ordered.inodes is.same (sym number) there is.kind in
      let second : Represents (record touched_rows { inodes = put by_inode d touched_rows.inodes }) (change_node d.id times dropped) =
      replaced_represents touched_rows dropped (touched_row now d) d times (rises-put by_inode nat_cmp_total (touched_row now d) t.inodes owes.ordered.inodes) first
      (row_at-put_same by_inode nat_cmp_total (touched_row now d) t.inodes) (λ node shape i. record (shape i) { mtime = d.mtime; ctime = d.ctime }) in
      let back : put by_inode d (put by_inode (touched_row now d) t.inodes) ≡ t.inodes =
      put-put_same by_inode nat_cmp_total d (touched_row now d) t.inodes (tied_itself nat_cmp_total d.id)
      ∙ put_same by_inode nat_cmp_total d t.inodes owes.ordered.inodes there in
      let third : Represents unlisted (change_node d.id times dropped) =
      subst (λ (rows : List Inode). Represents (record unlisted { inodes = rows }) (change_node d.id times dropped)) back second in
      let tree_is : change_node d.id times dropped ≡ one =
      twice_changed (λ node. touched now (record node { content = unnamed bytes node.content })) times d.id whole
      ∙ (λ i. less d.mtime d.ctime (sym number i) (bytes_are i) whole) in
      subst (Represents unlisted) tree_is third

  Represents-cut : Represents cut one
  Represents-cut = subst (λ (u : Tables). Represents u one) (sym cut_is) (lower.represents one Represents-unlisted)

  HasUniqueNames-cut : HasUniqueNames t → HasUniqueNames cut
  HasUniqueNames-cut unique = subst (λ (u : Tables). HasUniqueNames u) (sym cut_is) (lower.unique unique)

  IsLess-cut : IsLess t cut
  IsLess-cut = subst (IsLess t) (sym cut_is) (record {
    params = refl;
    inode_blocks = refl;
    blocks = refl;
    objects = refl;
    slots = refl;
    contents = length-without by_entry (c.parent, c.name_id) t.contents;
    attrs = omega arith;
  })

  -- ---- and without the inode

  module _ (bare : IsBare t r.id) where
    pub bare_cut : IsBare cut r.id
    bare_cut = subst (λ (u : Tables). IsBare u r.id) (sym cut_is) (record {
      entries = list_all-without by_entry (λ (x : Content). not (x.parent == r.id)) (c.parent, c.name_id) t.contents bare.entries;
      inode_blocks = bare.inode_blocks;
      slots = bare.slots;
    })

    pub others : (x : ℕ) → (r.id == x) ≡ false → times x [] ≡ times x (c.inode ∷ [])
    others x other = sym (times_other c.inode x [] (ap (λ y. y == x) child_number ∙ other))

    abbrev pub left : Tables
    left = gone cut p r.id (c.inode ∷ []) [] [] Owes-cut bare_cut others

    pub left_is : tables_after (folder_taken t c n r) t ≡ left
    left_is =
        sym (tables_after-tables_after (taking c n) (removal t r.id cut) t)
        ∙ ap (λ (u : Tables). tables_after (removal (record t { attrs = u.attrs; targets = u.targets }) r.id cut) cut) (sym cut_is)
        ∙ tables_after-removal cut p r.id (c.inode ∷ []) [] [] Owes-cut bare_cut others

    pub IsStep-left : IsWellFormed (without_node c.inode one) → IsStep t (tables_after (folder_taken t c n r) t) (without_node c.inode one) 0
    IsStep-left well =
        let before : IsLess t cut = IsLess-cut in
        subst (λ (u : Tables). IsStep t u (without_node c.inode one) 0) (sym left_is)
        (IsStep-less t left (without_node c.inode one) p
        (Owes-removal cut p r.id (c.inode ∷ []) [] [] Owes-cut bare_cut others)
        (subst (λ x. Represents left (without_node x one)) (sym child_number)
        (Represents-removal cut p r.id (c.inode ∷ []) [] [] Owes-cut bare_cut others one Represents-cut))
        well
        (λ unique. HasUniqueNames-removal cut p r.id (c.inode ∷ []) [] [] Owes-cut bare_cut others (HasUniqueNames-cut unique))
        (record {
          params = before.params;
          inode_blocks = before.inode_blocks;
          blocks = before.blocks;
          objects = before.objects;
          slots = before.slots;
          contents = before.contents;
          attrs = omega (arith, before.attrs, attrs-removal cut p r.id (c.inode ∷ []) [] [] Owes-cut bare_cut others);
        }))

  -- ---- whether it is kept

  row_there : inode_at cut r.id ≡ Some r
  row_there = ap (λ (u : Tables). inode_at u r.id) cut_is ∙ child_there

  one_less : r.refcount ≡ listed_inode_count cut r.id + 1
  one_less =
      let owed : IsTrue (owes_links cut (c.inode ∷ []) r) = find_passes_all (has_key by_inode r.id) (owes_links cut (c.inode ∷ [])) cut.inodes r Owes-cut.inodes row_there in
      let once : times r.id (c.inode ∷ []) ≡ 1 = ap (λ y. times r.id (y ∷ [])) child_number ∙ times_first r.id [] in
      omega (arith, eqb-true r.refcount (listed_inode_count cut r.id + times r.id (c.inode ∷ [])) owed, once)

  abbrev pub row : Inode
  row = counted_row (r.refcount - 1) now r

  abbrev pub counted : Tables
  counted = record cut { inodes = put by_inode row cut.inodes }

  owes_counted : Owes counted p [] []
  owes_counted =
      Owes-put_inode_less cut p r row [] [] (subst (λ id. Owes cut p (id ∷ []) []) child_number Owes-cut) row_there refl refl (omega (arith, one_less))

  abbrev pub marked : Tree
  marked = change_node c.inode (stamped now) one

  represents_counted : Represents counted marked
  represents_counted =
      subst (λ x. Represents counted (change_node x (stamped now) one)) (sym child_number)
      (replaced_represents cut one r row (stamped now) Owes-cut.ordered.inodes Represents-cut row_there (λ node shape i. record (shape i) { ctime = now }))

  children_cut : FindsChildren cut
  children_cut =
      subst (λ (u : Tables). FindsChildren u) (sym cut_is)
      (list_all-without by_entry (λ (x : Content). has_inode any_kind t x.inode) (c.parent, c.name_id) t.contents (FindsChildren-IsValid t is.valid))

  -- the node lives where it had another entry, or a handle
  pub lives_is : (held : Bool) → is_open whole c.inode ≡ held → lives marked c.inode ≡ (nat_lt 1 r.refcount || held)
  lives_is held held_is =
      let named : is_named marked c.inode ≡ nat_lt 1 r.refcount =
      is_named-owes counted p [] [] marked c.inode owes_counted (FindsChildren-put cut r row row_there refl refl children_cut) represents_counted not_root
      ∙ ap (λ x. not (listed_inode_count cut x == 0)) child_number ∙ some_left r.refcount (listed_inode_count cut r.id) one_less in
      let handle : is_open marked c.inode ≡ held =
      is_open-change_node (stamped now) c.inode c.inode one ∙ is_open-change_node (lose d.mtime d.ctime n.name) c.parent c.inode whole ∙ held_is in
      (λ i. not_root i || named i || handle i)

  pub kept_step : lives marked c.inode ≡ true → IsWellFormed (settled c.inode marked) → IsStep t (tables_after (file_taken true now t c n r) t) (settled c.inode marked) 0
  kept_step lives_on well =
      let tables : tables_after (file_taken true now t c n r) t ≡ counted = sym (tables_after-tables_after (taking c n) (changes.PutInode row ∷ []) t) in
      let tree_is : settled c.inode marked ≡ marked = ap (λ b. cond b marked (without_node c.inode marked)) lives_on in
      let before : IsLess t cut = IsLess-cut in
      subst (λ (u : Tables). IsStep t u (settled c.inode marked) 0) (sym tables)
      (IsStep-less t counted (settled c.inode marked) p owes_counted (subst (λ w. Represents counted w) (sym tree_is) represents_counted) well
      (λ u. HasUniqueNames-cut u)
      (record {
        params = before.params;
        inode_blocks = before.inode_blocks;
        blocks = before.blocks;
        objects = before.objects;
        slots = before.slots;
        contents = before.contents;
        attrs = before.attrs;
      }))

  gone_is : lives marked c.inode ≡ false → settled c.inode marked ≡ without_node c.inode one
  gone_is goes = ap (λ b. cond b marked (without_node c.inode marked)) goes ∙ without_node-change_node (stamped now) c.inode one

  pub bare_step : IsBare t r.id → lives marked c.inode ≡ false → IsWellFormed (settled c.inode marked) → IsStep t (tables_after (folder_taken t c n r) t) (settled c.inode marked) 0
  bare_step bare goes well =
      subst (λ w. IsStep t (tables_after (folder_taken t c n r) t) w 0) (sym (gone_is goes)) (IsStep-left bare (subst IsWellFormed (gone_is goes) well))

  -- what has no entry in the tables has none in the tree
  pub empty_in_tree : IsTrue (list_all (λ (x : Content). not (x.parent == r.id)) t.contents) → (by : List ℕ) → entry_at whole c.inode by ≡ None
  empty_in_tree empty by =
      none_from (entry_at whole c.inode by) (λ y named.
      let found = entry_found t whole is.same is.valid.rows.entries c.inode y by named in
      let own : (found.0.parent == c.inode) ≡ true = (and_parts (found.0.parent == c.inode) _ (find_passes (is_entry t c.inode by) t.contents found.0 found.1)).0 in
      let other : IsTrue (not (found.0.parent == r.id)) = find_passes_all (is_entry t c.inode by) (λ (x : Content). not (x.parent == r.id)) t.contents found.0 empty found.1 in
      let clash : false ≡ true = sym (ap not (eq-eqb found.0.parent r.id (eqb-true found.0.parent c.inode own ∙ child_number))) ∙ other in
      absurd (cc clash))

  -- a directory has no places, and no slots
  pub bare_folder : is_directory r.kind ≡ true → IsTrue (list_all (λ (x : Content). not (x.parent == r.id)) t.contents) → IsBare t r.id
  bare_folder own empty = record {
    entries = empty;
    inode_blocks =
        list_all_weaker (finds_of_inode_block t) (λ (x : InodeBlock). not (x.inode == r.id))
        (λ x finds. apart_by_kind t r child_there is_regular no_file x.inode (and_parts (has_inode is_regular t x.inode) (is_some (block_at t x.block)) finds).0)
        t.inode_blocks is.valid.rows.inode_blocks;
    slots =
        list_all_weaker (λ (x : Slot). has_inode is_regular t x.inode) (λ (x : Slot). not (x.inode == r.id))
        (λ x. apart_by_kind t r child_there is_regular no_file x.inode) t.slots is.valid.rows.slots;
  }
    where
      by_kind : (kind : Kind) → is_directory kind ≡ true → is_regular kind ≡ false
      by_kind kinds.Directory folder = refl
      by_kind kinds.Regular folder = absurd (cc folder)
      by_kind kinds.Link folder = absurd (cc folder)

      no_file : is_regular r.kind ≡ false
      no_file = by_kind r.kind own

  pub empty_file : is_directory r.kind ≡ false → IsTrue (list_all (λ (x : Content). not (x.parent == r.id)) t.contents)
  empty_file other = no_entries t r child_there other owes

-- ---- with its places

pub IsTaking-cleared : (t : Tables) (whole : Tree) (p : Parameters) (d r : Inode) (c : Content) (n : Name) (rows : List InodeBlock)
    → IsTaking t whole p d r c n → IsTaking (cleared t rows) whole p d r c n
IsTaking-cleared t whole p d r c n rows is = record {
  valid = IsValid-places_dropped rows t is.valid;
  same = Represents-KeepsNames t (cleared t rows) (names-cleared t rows) whole is.same;
  params = params-places_dropped rows t ∙ is.params;
  found = inode_at-cleared t rows c.parent ∙ is.found;
  kind = is.kind;
  entry = entry_at-cleared t rows c.parent c.name_id ∙ is.entry;
  named = name_at-cleared t rows c.name_id ∙ is.named;
  child = inode_at-cleared t rows c.inode ∙ is.child;
}

-- without its places what is no directory has nothing
pub bare_file : (t : Tables) (whole : Tree) (p : Parameters) (d r : Inode) (c : Content) (n : Name) (now : ℕ) (is : IsTaking t whole p d r c n) → is_directory r.kind ≡ false
    → IsTrue (list_all (λ (x : Slot). not (x.inode == r.id)) t.slots) → IsBare (cleared t (places_from t r.id 0)) r.id
bare_file t whole p d r c n now is other slots =
    let rows : List InodeBlock = places_from t r.id 0 in
    record {
      entries = subst (λ (xs : List Content). IsTrue (list_all (λ (x : Content). not (x.parent == r.id)) xs)) (sym (names-cleared t rows).contents) (empty_file t whole p d r c n now is other);
      inode_blocks = no_places t is.valid r.id;
      slots = subst (λ (xs : List Slot). IsTrue (list_all (λ (x : Slot). not (x.inode == r.id)) xs)) (sym (names-cleared t rows).slots) slots;
    }

pub gone_step : (t : Tables) (whole : Tree) (p : Parameters) (d r : Inode) (c : Content) (n : Name) (now : ℕ) (is : IsTaking t whole p d r c n)
    → IsBare (cleared t (places_from t r.id 0)) r.id → lives (marked t whole p d r c n now is) c.inode ≡ false
    → IsWellFormed (settled c.inode (marked t whole p d r c n now is))
    → IsStep t (tables_after (file_taken false now t c n r) t) (settled c.inode (marked t whole p d r c n now is)) 0
gone_step t whole p d r c n now is bare goes well =
    let rows : List InodeBlock = places_from t r.id 0 in
    let u : Tables = cleared t rows in
    let next : Tree = settled c.inode (marked t whole p d r c n now is) in
    subst (λ (w : Tables). IsStep t w next 0) (sym (after_removal-cleared t rows (taking c n) r.id))
    (IsStep-gone t is.valid r.id (tables_after (folder_taken u c n r) u) next 0 (inode_at-removal u r.id (taking c n) u)
    (bare_step u whole p d r c n now (IsTaking-cleared t whole p d r c n rows is) bare goes well))

-- ---- the directory of an entry

directory_in : (found : Option Inode) → IsTrue (elim found [ Some r ↦ is_directory r.kind | None ↦ false ]) → (d : Inode) × (found ≡ Some d) × (d.kind ≡ kinds.Directory)
directory_in None is = absurd (cc is)
directory_in (Some d) is = (d, refl, by_kind d.kind is)
  where
    by_kind : (kind : Kind) → IsTrue (is_directory kind) → kind ≡ kinds.Directory
    by_kind kinds.Directory own = refl
    by_kind kinds.Regular own = absurd (cc own)
    by_kind kinds.Link own = absurd (cc own)

pub directory_of : (t : Tables) → IsValid t → (c : Content) → selections.entry_at t c.parent c.name_id ≡ Some c
    → (d : Inode) × (inode_at t c.parent ≡ Some d) × (d.kind ≡ kinds.Directory)
directory_of t v c entry =
    let finds : IsTrue (finds_of_entry t c) = find_passes_all (has_key by_entry (c.parent, c.name_id)) (finds_of_entry t) t.contents c v.rows.entries entry in
    directory_in (inode_at t c.parent)
    (and_parts (has_inode is_directory t c.parent) (is_some (name_at t c.name_id)) (and_parts _ (has_inode any_kind t c.inode) finds).0).0
