-- A new inode and its entry in a directory, whatever its kind.
use Rattle.std.proofs.Common.{◌≡◌, ℕ, ◌+◌, List, [], ◌∷◌, false, Option, None, Some, refl, sym, ap, ◌∙◌, subst, arith}
use Rattle.std.specs.Prelude.{IsTrue, ◌==◌, nat_lt, option_map, unwrap_or}
use Rattle.std.specs.List.{list_any}
use Rattle.std.specs.Cmp.{nat_cmp_total}
use Rattle.s3_base.specs.declared.node_kind.Kind.TheVariants as kinds
use Rattle.plain_tree.specs.Tree.{Node, Tree, with_node}
use Rattle.plain_tree.specs.Entries.{add_entry}
use Rattle.plain_tree.specs.WellFormed.{IsWellFormed}
use Rattle.s3_rows.specs.declared.change.Change.{Change}
use Rattle.s3_rows.specs.declared.change.Change.TheVariants as changes
use Rattle.s3_rows.specs.Rows.{Inode, Target, Parameters}
use Rattle.s3_rows.specs.Keyed.{has_key, put}
use Rattle.s3_rows.specs.Tables.{Tables, by_inode, by_name}
use Rattle.s3_rows.specs.Batches.{tables_after}
use Rattle.s3_rows.specs.Selections.{inode_at}
use Rattle.s3_rows.specs.Validity.{IsValid, has_inode, is_directory}
use Rattle.row_lemmas.proofs.Tests.{find_passes_all, is_eq-nat_cmp}
use Rattle.row_lemmas.proofs.Keyed.Put.{row_at-put_other, row_at-put_same}
use Rattle.row_lemmas.proofs.Tables.{tables_after-tables_after}
use Rattle.tree_rows.specs.Shapes.{TreeShape, Represents}
use Rattle.tree_rows.proofs.Listed.{is_entry}
use Rattle.tree_rows.proofs.Whole.{number_of}
use Rattle.ref_counts.specs.Names.{Raised, raised}
use Rattle.ref_counts.specs.Plans.{IsStep, next_inode_of, settings}
use Rattle.row_steps.specs.Owed.{Owes}
use Rattle.row_steps.specs.RowChanges.{creation, drawn, entering, touched_row, with_drawn}
use Rattle.row_steps.proofs.Entered.{IsStart, IsStep-entering}
use Rattle.row_steps.proofs.NewInode.{drawn_owes, not_root, number_drawn, with_inode}
use Rattle.row_steps.proofs.Owed.Draws.{apart_above, apart_below}
use Rattle.row_steps.proofs.Owed.Ends.{Owes-IsValid}
use Rattle.row_steps.proofs.Owed.Inodes.{below_from_there}
use Rattle.row_steps.proofs.Owed.Raised.{IsRaise, IsRaise-raised}

-- what is needed of the tables, the directory, the new row with the rows of targets that come with it, and the name
pub record IsMaking (t : Tables) (whole : Tree) (p : Parameters) (d new : Inode) (node : Node) (more : Raised) (name : List ℕ) (targets : List Target) : Type 0 where
  pub valid : IsValid t
  pub params : t.params ≡ Some p
  pub there : inode_at t d.id ≡ Some d
  pub kind : d.kind ≡ kinds.Directory
  pub free : list_any (is_entry t d.id name) t.contents ≡ false
  pub used : raised (with_drawn p t) name ≡ Some more
  pub id : new.id ≡ p.next_inode
  pub once : new.refcount ≡ 1
  pub owes : Owes (with_inode t p new targets) (drawn p) (new.id ∷ []) []
  pub same : Represents (with_inode t p new targets) (with_node node whole)

module _ (t : Tables) (whole : Tree) (p : Parameters) (d new : Inode) (node : Node) (more : Raised) (name : List ℕ) (targets : List Target) (now : ℕ)
    (is : IsMaking t whole p d new node more name targets) where
  folder : IsTrue (has_inode is_directory t d.id)
  folder = ap (λ (found : Option Inode). elim found [ Some r ↦ is_directory r.kind | None ↦ false ]) is.there ∙ ap is_directory is.kind

  directory_there : inode_at (with_inode t p new targets) d.id ≡ Some d
  directory_there =
      row_at-put_other by_inode nat_cmp_total d.id new t.inodes
      (is_eq-nat_cmp d.id new.id ∙ ap (λ n. d.id == n) is.id
      ∙ apart_below d.id p.next_inode
      (below_from_there t p.next_inode (Owes-IsValid t p is.valid is.params).numbers d.id (λ kind size. is_directory kind) folder))
      ∙ is.there

  start : IsStart t (with_inode t p new targets)
  start =
      let inode : next_inode_of t ≡ p.next_inode = ap (λ (found : Option Parameters). unwrap_or (option_map (λ q. q.next_inode) found) 0) is.params in
      record {
        rest = record {
          params = sym (ap (option_map settings) is.params);
          next_inode = omega (arith, inode);
          next_name = omega (arith, ap (λ (found : Option Parameters). unwrap_or (option_map (λ q. q.next_name) found) 0) is.params);
          inode_blocks = refl;
          blocks = refl;
          objects = refl;
          slots = refl;
        };
        small = record {
          names = omega (arith, ap (λ (found : Option Parameters). unwrap_or (option_map (λ q. q.next_name) found) 0) is.params);
          uses = omega arith;
        };
        unique = λ unique. unique;
      }

  -- the new inode may be put before its name and its entry, and its targets with it
  creation_is : (last : List Change) → ((u : Tables) → tables_after last (record u { targets = t.targets }) ≡ record u { targets = targets })
      → tables_after last (tables_after (creation p d more new now) t) ≡ tables_after (entering d more new.id now) (with_inode t p new targets)
  creation_is last puts =
      let used : IsRaise (with_drawn p t) (drawn p) [] [] more name =
      IsRaise-raised (with_drawn p t) (drawn p) [] [] more name (drawn_owes t p is.valid is.params) refl is.used in
      let entry : Change = changes.PutContent (record { parent = d.id; name_id = more.id; inode = new.id }) in
      let touch : Change = changes.PutInode (touched_row now d) in
      let named : Tables =
      record (with_drawn p t) {
        params = Some (record (drawn p) { next_name = used.next });
        names = put by_name used.row t.names;
        inodes = put by_inode new t.inodes;
        targets = targets;
      } in
      ap (tables_after last) (sym (tables_after-tables_after more.changes (entry ∷ changes.PutInode new ∷ touch ∷ []) (with_drawn p t)))
      ∙ ap (λ u. tables_after last (tables_after (entry ∷ changes.PutInode new ∷ touch ∷ []) u)) used.after
      ∙ puts (tables_after (entry ∷ touch ∷ []) named)
      ∙ ap (tables_after (entry ∷ touch ∷ [])) (sym (used.after_rows (put by_inode new t.inodes) targets))
      ∙ tables_after-tables_after more.changes (entry ∷ touch ∷ []) (with_inode t p new targets)

  pub made_step : (last : List Change) → ((u : Tables) → tables_after last (record u { targets = t.targets }) ≡ record u { targets = targets })
      → IsWellFormed (add_entry d.id name whole.next_inode now (with_node node whole))
      → IsStep t (tables_after last (tables_after (creation p d more new now) t)) (add_entry d.id name whole.next_inode now (with_node node whole)) 1
  made_step last puts well =
      let drawn_too : p.next_inode + 1 ≡ whole.next_inode + 1 = ap (λ (s : TreeShape). s.next_inode) is.same in
      let next : new.id ≡ whole.next_inode = omega (arith, is.id, drawn_too) in
      let added : ℕ → Tree = λ n. add_entry d.id name n now (with_node node whole) in
      subst (λ (u : Tables). IsStep t u (added whole.next_inode) 1) (sym (creation_is last puts))
      (subst (λ n. IsStep t (tables_after (entering d more new.id now) (with_inode t p new targets)) (added n) 1) next
      (IsStep-entering t (with_inode t p new targets) (drawn p) d more name new.id now is.owes is.used directory_there is.kind is.free
      (not_root t p is.valid is.params new is.id) (number_drawn t p is.valid is.params new is.id) start (with_node node whole) is.same
      (subst (λ n. IsWellFormed (added n)) (sym next) well)))

-- the new row is found after them all
pub new_row_there : (t : Tables) (p : Parameters) (d new : Inode) (more : Raised) (parent now : ℕ) (name : List ℕ) → IsValid t → t.params ≡ Some p
    → inode_at t parent ≡ Some d → new.id ≡ p.next_inode → raised (with_drawn p t) name ≡ Some more
    → inode_at (tables_after (creation p d more new now) t) new.id ≡ Some new
new_row_there t p d new more parent now name v made found id used =
    let raise : IsRaise (with_drawn p t) (drawn p) [] [] more name = IsRaise-raised (with_drawn p t) (drawn p) [] [] more name (drawn_owes t p v made) refl used in
    let rest : List Change =
    changes.PutContent (record { parent = d.id; name_id = more.id; inode = new.id }) ∷ changes.PutInode new ∷ changes.PutInode (touched_row now d) ∷ [] in
    let there : inode_at t d.id ≡ Some d = ap (inode_at t) (sym (number_of t parent d found)) ∙ found in
    let below : IsTrue (nat_lt d.id p.next_inode) = find_passes_all (has_key by_inode d.id) (λ (r : Inode). nat_lt r.id p.next_inode) t.inodes d (Owes-IsValid t p v made).numbers there in
    ap (λ (u : Tables). inode_at u new.id) (sym (tables_after-tables_after more.changes rest (with_drawn p t)) ∙ ap (tables_after rest) raise.after)
    ∙ row_at-put_other by_inode nat_cmp_total new.id (touched_row now d) (put by_inode new t.inodes)
    (is_eq-nat_cmp new.id d.id ∙ ap (λ n. n == d.id) id ∙ apart_above d.id p.next_inode below)
    ∙ row_at-put_same by_inode nat_cmp_total new t.inodes
