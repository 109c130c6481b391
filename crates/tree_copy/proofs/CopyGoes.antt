-- The walk of a copy goes on: a turn, a level that is done, and the end.
use Rattle.std.proofs.Common.{◌≡◌, ◌<◌, ◌^◌, ℕ, suc, List, [], ◌∷◌, ◌++◌, Bool, true, false, cond, Option, None, Some, refl, sym, ap, ◌∙◌, subst}
use Rattle.std.specs.BTreeMap.{get}
use Rattle.std.specs.List.{slice_get}
use Rattle.std.specs.Ordering.{nat_cmp}
use Rattle.std.specs.Prelude.{filter, find, take}
use Rattle.s3_base.specs.declared.node_kind.Kind.{Kind}
use Rattle.plain_tree.specs.Below.{is_among}
use Rattle.plain_tree.specs.Checks.{attribute_name_check}
use Rattle.plain_tree.specs.Entries.{entry_at}
use Rattle.plain_tree.specs.Subtrees.{copy_number}
use Rattle.plain_tree.specs.Tree.{Node, Tree, node_at}
use Rattle.s3_rows.specs.declared.change.Change.{Change}
use Rattle.s3_rows.specs.declared.lists.NamedEntry.{NamedEntry}
use Rattle.s3_rows.specs.Keyed.{is_past}
use Rattle.s3_rows.specs.Rows.{Inode, Parameters}
use Rattle.s3_rows.specs.Selections.{by_entry_name, entries_listed, inode_at, named_entries}
use Rattle.s3_rows.specs.Tables.{IsOrdered, Tables}
use Rattle.tree_laws.proofs.Node.Kind.{kind_in}
use Rattle.tree_laws.proofs.Shape.Definition.{grown_of}
use Rattle.tree_laws.proofs.Shape.Tree.{shape_of}
use Rattle.tree_laws.proofs.Shape.Words.{Grown, NoneGoes}
use Rattle.tree_laws.proofs.Walk.Passed.{all_pass}
use Rattle.tree_rows.proofs.Whole.{number_of}
use Rattle.ref_counts.specs.Names.{StaysUnique}
use Rattle.tree_copy.specs.declared.entries.CopySpot.{CopySpot}
use Rattle.tree_copy.specs.declared.progress.Copied.{Copied}
use Rattle.tree_copy.specs.declared.walk.Level.{Level}
use Rattle.tree_copy.specs.CopiedNames.{AreAttrNames}
use Rattle.tree_copy.specs.CopyLevels.{HasCome, first_level, levels_after, visit_of}
use Rattle.tree_copy.specs.CopyPlans.{IsCopyable, copy_checks}
use Rattle.tree_copy.specs.CopySteps.{inodes_seen}
use Rattle.tree_copy.specs.CopyWalks.{GoesOn, IsCopiedWhole, IsVisited, Walk, source_batch, spot_of, turned, walk_after, walk_on, walk_to}
use Rattle.tree_copy.proofs.CopyCome.{come_again, come_all, come_done, come_first, come_new, listed_name}
use Rattle.tree_copy.proofs.CopyMade.{is_spot, made_first, made_more, next_number, row_there, top_folder}
use Rattle.tree_copy.proofs.LinkBounds.{links_fit}
use Rattle.tree_copy.proofs.LegalNames.{AreAttrNames-row, entry_name_fits}
use Rattle.tree_copy.proofs.Visits.{row_of_node}

-- the first row of a page
pub first_row : {X : Type 0} (p : X → Bool) (rows : List X) → slice_get (take 1 (filter p rows)) 0 ≡ find p rows
first_row p [] = refl
first_row {X} p (x ∷ xs) = by_case (first_row p xs) (p x)
  where
    by_case : slice_get (take 1 (filter p xs)) 0 ≡ find p xs → (b : Bool) → slice_get (take 1 (cond b (x ∷ filter p xs) (filter p xs))) 0 ≡ cond b (Some x) (find p xs)
    by_case others true = refl
    by_case others false = others

module _ (told : Tables) (whole : Tree) (source parent now : ℕ) (name : List ℕ) (top directory : Inode) (p : Parameters)
    (k : IsCopyable told whole source parent name top directory p) where
  pub goes_first : (c : Copied) → c.names ≡ source_batch told p.next_inode now top directory name → ((cs : List Change) → c.names ≡ Some cs → StaysUnique cs told)
      → c.seen.items ≡ top.id ∷ [] → ((x : ℕ) → get nat_cmp c.numbers x ≡ None) → GoesOn told whole now top directory name c (first_level top.id p.next_inode ∷ [])
  goes_first c names unique seen numbers =
      subst (λ n. GoesOn told whole now top directory name c (first_level top.id n ∷ [])) (sym (next_number told whole source parent name top directory p k))
      (record {
        visits = [];
        turns = 0;
        walked = refl;
        come = come_first told whole k.valid k.same k.well top.id (top_folder told whole source parent now name top directory p k);
        made = made_first told whole source parent now name top directory p k c names unique seen numbers;
      })

  -- the names of the source are such as Setxattr takes
  pub source_names_fit : AreAttrNames told top.id × (attribute_name_check name ≡ None)
  source_names_fit =
      let all = all_pass (copy_checks whole source parent name) k.passes in (
        AreAttrNames-row told whole k.same k.well top (ap (inode_at told) (sym (number_of told source top k.source_found)) ∙ k.source_found),
        entry_name_fits name all.0,
      )

  -- ---- a level

  module _ (c : Copied) (l : Level) (levels : List Level) (goes : GoesOn told whole now top directory name c (l ∷ levels)) where
    walk : (found : Option NamedEntry) → slice_get (entries_listed told l.directory l.last 1) 0 ≡ found
        → walk_after (suc goes.turns) told whole.next_inode top.id ≡ walk_on told whole.next_inode top.id goes.visits l levels found
    walk found is =
        ap (λ (w : Walk). turned told whole.next_inode top.id w.visits w.levels) goes.walked
        ∙ ap (walk_on told whole.next_inode top.id goes.visits l levels) (sym (first_row (is_past by_entry_name l.last) (named_entries told l.directory)) ∙ is)

    behind : (e : NamedEntry) → slice_get (entries_listed told l.directory l.last 1) 0 ≡ Some e → find (is_past by_entry_name l.last) (named_entries told l.directory) ≡ Some e
    behind e is = sym (first_row (is_past by_entry_name l.last) (named_entries told l.directory)) ∙ is

    pub goes_done : slice_get (entries_listed told l.directory l.last 1) 0 ≡ None → GoesOn told whole now top directory name c levels
    goes_done none = record {
      visits = goes.visits;
      turns = suc goes.turns;
      walked = walk None none;
      come =
          come_done told whole k.valid k.same k.well top.id (top_folder told whole source parent now name top directory p k) goes.visits l levels goes.come
          (sym (first_row (is_past by_entry_name l.last) (named_entries told l.directory)) ∙ none);
      made = goes.made;
    }

    -- what an entry names has a row
    pub goes_row : (e : NamedEntry) → slice_get (entries_listed told l.directory l.last 1) 0 ≡ Some e → inode_at told e.row.inode ≡ None → ⊥
    goes_row e is none =
        let listed : entry_at whole l.directory e.name ≡ Some e.row.inode =
        listed_name told whole k.valid k.same k.well top.id (top_folder told whole source parent now name top directory p k) l goes.come.levels_are.0.folder e (behind e is) in
        let grown : Grown NoneGoes (shape_of whole) = grown_of whole k.well.nodes k.well.names k.well.tree k.well.orphans in
        let kind = grown.there l.directory e.row.inode e.name listed in
        by_node (node_at whole e.row.inode) refl kind.0 kind.1
      where
        by_node : (found : Option Node) → node_at whole e.row.inode ≡ found → (kind : Kind) → kind_in (node_at whole e.row.inode) ≡ Some kind → ⊥
        by_node None at kind own =
            let clash : None ≡ Some kind = sym (ap kind_in at) ∙ own in
            cc clash
        by_node (Some n) at kind own =
            let row = row_of_node told whole k.same e.row.inode n at in
            let clash : None ≡ Some row.0 = sym none ∙ row.1 in
            cc clash

    -- ---- its next entry

    module _ (e : NamedEntry) (is : slice_get (entries_listed told l.directory l.last 1) 0 ≡ Some e) (r : Inode) (there : inode_at told e.row.inode ≡ Some r) (few : r.refcount < 2 ^ 62) where
      next_is : find (is_past by_entry_name l.last) (named_entries told l.directory) ≡ Some e
      next_is = behind e is

      come_more : HasCome told whole top.id (goes.visits ++ visit_of l e r ∷ [])
          (levels_after l e r (is_among (inodes_seen top goes.visits) r.id) (copy_number whole.next_inode (inodes_seen top goes.visits) r.id) levels)
      come_more = by_case (is_among (inodes_seen top goes.visits) r.id) refl
        where
          by_case : (b : Bool) → is_among (inodes_seen top goes.visits) r.id ≡ b
              → HasCome told whole top.id (goes.visits ++ visit_of l e r ∷ []) (levels_after l e r b (copy_number whole.next_inode (inodes_seen top goes.visits) r.id) levels)
          by_case true among =
              come_again told whole k.valid k.same k.well top.id (top_folder told whole source parent now name top directory p k) goes.visits l levels goes.come e next_is r there among
          by_case false new =
              come_new told whole k.valid k.same k.well top.id (top_folder told whole source parent now name top directory p k) goes.visits l levels goes.come e next_is r there
              (copy_number whole.next_inode (inodes_seen top goes.visits) r.id) new refl

      pub goes_turn : (after : Copied) (spot : CopySpot) (now_levels : List Level) → spot ≡ spot_of c p.next_inode l r.id now
          → (IsOrdered told → ((cs : List Change) → c.names ≡ Some cs → StaysUnique cs told) → AreAttrNames told r.id → attribute_name_check e.name ≡ None
          → IsVisited told spot r e.name c after)
          → now_levels ≡ levels_after l e r spot.again spot.copy levels → GoesOn told whole now top directory name after now_levels
      goes_turn after spot now_levels spot_is visited levels_are =
          let listed : entry_at whole l.directory e.name ≡ Some e.row.inode =
          listed_name told whole k.valid k.same k.well top.id (top_folder told whole source parent now name top directory p k) l goes.come.levels_are.0.folder e (behind e is) in
          let own = is_spot told whole source parent now name top directory p k goes.visits l levels goes.come e next_is r there c goes.made in
          let end : levels_after l e r (is_among (inodes_seen top goes.visits) r.id) (copy_number whole.next_inode (inodes_seen top goes.visits) r.id) levels ≡ now_levels =
          sym (levels_are ∙ ap (λ (s : CopySpot). levels_after l e r s.again s.copy levels) spot_is ∙ (λ i. levels_after l e r (own.again i) (own.copy i) levels)) in
          subst (λ (ls : List Level). GoesOn told whole now top directory name after ls) end
          (record {
            visits = goes.visits ++ visit_of l e r ∷ [];
            turns = suc goes.turns;
            walked = walk (Some e) is ∙ ap (walk_to whole.next_inode top.id goes.visits l levels e) there;
            come = come_more;
            made =
                made_more told whole source parent now name top directory p k goes.visits l levels goes.come e next_is r there c goes.made
                (links_fit told whole source parent now name top directory p k goes.visits l levels goes.come e next_is r there few)
                after
                (subst (λ (s : CopySpot). IsVisited told s r e.name c after) spot_is
                (visited k.valid.ordered goes.made.unique
                (AreAttrNames-row told whole k.same k.well r (row_there told whole source parent now name top directory p k goes.visits l levels goes.come e next_is r there c goes.made))
                (entry_name_fits e.name (k.well.tree.names l.directory e.row.inode e.name listed))));
          })

  -- ---- the end

  pub goes_all : (c : Copied) → GoesOn told whole now top directory name c [] → IsCopiedWhole told whole now top directory name c
  goes_all c goes = record {
    visits = goes.visits;
    walked = record { turns = goes.turns; is = goes.walked };
    are = come_all told whole k.valid k.same k.well top.id (top_folder told whole source parent now name top directory p k) goes.visits goes.come;
    made = goes.made;
  }
