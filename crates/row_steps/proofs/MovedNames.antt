-- An entry that moves, by what its name is: its own in another directory, or another one.
use Rattle.std.proofs.Common.{◌≡◌, ◌≤◌, ℕ, List, [], ◌∷◌, ◌++◌, length, true, false, Option, None, Some, refl, sym, ap, ◌∙◌, subst, arith}
use Rattle.std.specs.Prelude.{◌==◌, is_some, option_map, unwrap_or}
use Rattle.std.specs.Cmp.{nat_cmp_total}
use Rattle.s3_base.specs.Numbers.{root}
use Rattle.plain_tree.specs.Tree.{Tree}
use Rattle.plain_tree.specs.Entries.{drop_entry, entry_at}
use Rattle.plain_tree.specs.WellFormed.{IsWellFormed}
use Rattle.s3_rows.specs.declared.change.Change.{Change}
use Rattle.s3_rows.specs.declared.change.Change.TheVariants as changes
use Rattle.s3_rows.specs.Rows.{Inode, Name, Content, Parameters}
use Rattle.s3_rows.specs.Keyed.{put, without}
use Rattle.s3_rows.specs.Tables.{Tables, by_entry, by_inode, by_name}
use Rattle.s3_rows.specs.Batches.{tables_after}
use Rattle.s3_rows.specs.Selections.{inode_at, name_at, bytes_of_name}
use Rattle.s3_rows.specs.Selections as selections
use Rattle.row_lemmas.proofs.Keyed.Length.{length-put, length-without_there}
use Rattle.row_lemmas.proofs.Keyed.Put.{row_at-put_same}
use Rattle.row_lemmas.proofs.Tables.{tables_after-tables_after}
use Rattle.tree_rows.specs.Shapes.{Represents}
use Rattle.tree_rows.proofs.Validity.Tables.{IsValid_from_tree}
use Rattle.ref_counts.specs.Names.{Raised, lowered, raised}
use Rattle.ref_counts.specs.Plans.{IsStep, next_inode_of, next_name_of, settings}
use Rattle.ref_counts.proofs.Rest.{LeavesRest-LeavesBlocks}
use Rattle.row_steps.specs.Owed.{Owes}
use Rattle.row_steps.specs.RowChanges.{dropping, moving, other_name, same_name, stamped_row, touched_row}
use Rattle.row_steps.proofs.Dropping.{Represents-touched, id_is, lower, owes_both}
use Rattle.row_steps.proofs.Leaving.{entry_there, in_directory, name_is, named, not_root, owes, there}
use Rattle.row_steps.proofs.Less.{IsStep-less}
use Rattle.row_steps.proofs.Moving.{IsMoving, at_parent, child, final, left, lifted, moved, moved_to_new, touched_rows}
use Rattle.row_steps.proofs.Owed.Ends.{HasPremises-Owes}
use Rattle.row_steps.proofs.Owed.Lowered.{IsLower}
use Rattle.row_steps.proofs.Owed.Names.{KeepsBytes-put, any_name}
use Rattle.row_steps.proofs.Owed.Raised.{IsRaise, IsRaise-raised}
use Rattle.row_steps.proofs.Shape.Names.{Represents-names}

module _ (t : Tables) (whole : Tree) (p : Parameters) (d d2 r : Inode) (c : Content) (n : Name) (now parent : ℕ) (name : List ℕ) (new_parent : ℕ) (new_name : List ℕ)
    (is : IsMoving t whole p d d2 r c n parent name new_parent new_name) where
  -- ---- the old entry gone

  owes_before : Owes t p [] []
  owes_before = owes t whole p d r c n now parent name is.leaving

  d_there : inode_at t d.id ≡ Some d
  d_there = there t whole p d r c n now parent name is.leaving

  d_is : d.id ≡ c.parent
  d_is = in_directory t whole p d r c n now parent name is.leaving

  row_there : selections.entry_at t c.parent c.name_id ≡ Some c
  row_there = entry_there t whole p d r c n now parent name is.leaving

  name_there : name_at t c.name_id ≡ Some n
  name_there = named t whole p d r c n now parent name is.leaving

  inode_not_root : (c.inode == root) ≡ false
  inode_not_root = not_root t whole p d r c n now parent name is.leaving

  text_is : n.name ≡ name
  text_is = name_is t whole p d r c n now parent name is.leaving

  abbrev gone : Tables
  gone = lifted t whole p d d2 r c n now parent name new_parent new_name is t.params t.names

  pub owes_gone : Owes gone p (r.id ∷ []) (n.id ∷ [])
  owes_gone =
      subst (λ x. Owes gone p (x ∷ []) (n.id ∷ [])) (child t whole p d d2 r c n now parent name new_parent new_name is)
      (owes_both t p d c n now [] [] owes_before d_there d_is row_there name_there inode_not_root)

  pub represents_gone : Represents gone (left t whole p d d2 r c n now parent name new_parent new_name is)
  represents_gone =
      subst (λ x. Represents gone (drop_entry x name now whole)) (sym (at_parent t whole p d d2 r c n now parent name new_parent new_name is))
      (subst (λ text. Represents gone (drop_entry d.id text now whole)) text_is
      (Represents-touched t p d c n now [] [] owes_before d_there d_is row_there name_there inode_not_root whole is.leaving.kind is.leaving.same))

  -- ---- what moves keep

  abbrev rows : List Inode
  rows = put by_inode (stamped_row now r) (put by_inode (touched_row now d2) (touched_rows t whole p d d2 r c n now parent name new_parent new_name is))

  pub fewer : (m : ℕ) → length (put by_entry (record { parent = d2.id; name_id = m; inode = r.id }) (without by_entry (c.parent, c.name_id) t.contents)) ≤ length t.contents
  fewer m =
      omega (
        arith,
        length-put by_entry (record { parent = d2.id; name_id = m; inode = r.id }) (without by_entry (c.parent, c.name_id) t.contents),
        length-without_there by_entry (c.parent, c.name_id) t.contents c row_there,
      )

  -- ---- the same name in another directory

  pub IsStep-same_name : new_name ≡ name → entry_at whole new_parent new_name ≡ None → IsWellFormed (final t whole p d d2 r c n now parent name new_parent new_name is)
      → IsStep t (tables_after (moving d d2 c (same_name c) r now) t) (final t whole p d d2 r c n now parent name new_parent new_name is) 0
  IsStep-same_name alike absent well =
      let bytes : bytes_of_name t c.name_id ≡ new_name =
      ap (λ (found : Option Name). unwrap_or (option_map (λ (x : Name). x.name) found) []) name_there ∙ text_is ∙ sym alike in
      let both = moved_to_new t whole p d d2 r c n now parent name new_parent new_name is t.params t.names absent p c.name_id
      (subst (λ id. Owes gone p (r.id ∷ []) (id ∷ [])) (sym (id_is t p d c n now [] [] owes_before d_there d_is row_there name_there inode_not_root)) owes_gone)
      represents_gone (ap is_some name_there) bytes in
      IsStep-less t (moved t whole p d d2 r c n now parent name new_parent new_name is t.params t.names c.name_id)
      (final t whole p d d2 r c n now parent name new_parent new_name is) p both.0 both.1 well (λ unique. unique)
      (record {
        params = refl;
        inode_blocks = refl;
        blocks = refl;
        objects = refl;
        slots = refl;
        contents = fewer c.name_id;
        attrs = omega arith;
      })

  -- ---- another name

  pub less : IsLower gone p (r.id ∷ []) [] (lowered n)
  less =
      subst (λ x. IsLower gone p (x ∷ []) [] (lowered n)) (child t whole p d d2 r c n now parent name new_parent new_name is)
      (lower t p d c n now [] [] owes_before d_there d_is row_there name_there inode_not_root)

  -- the old name is used once less
  abbrev pub unnamed : Tables
  unnamed = lifted t whole p d d2 r c n now parent name new_parent new_name is t.params less.rows

  dropped_is : tables_after (dropping d c n now) t ≡ unnamed
  dropped_is = less.after

  module _ (more : Raised) (used : raised (tables_after (dropping d c n now) t) new_name ≡ Some more) (absent : entry_at whole new_parent new_name ≡ None)
      (well : IsWellFormed (final t whole p d d2 r c n now parent name new_parent new_name is)) where
    abbrev next : Tree
    next = final t whole p d d2 r c n now parent name new_parent new_name is

    abbrev raise : IsRaise unnamed p (r.id ∷ []) [] more new_name
    raise = IsRaise-raised unnamed p (r.id ∷ []) [] more new_name less.owes refl (ap (λ (u : Tables). raised u new_name) (sym dropped_is) ∙ used)

    abbrev names : List Name
    names = put by_name raise.row less.rows

    abbrev params : Option Parameters
    params = Some (record p { next_name = raise.next })

    abbrev after : Tables
    after = moved t whole p d d2 r c n now parent name new_parent new_name is params names raise.row.id

    named_row : name_at (lifted t whole p d d2 r c n now parent name new_parent new_name is params names) raise.row.id ≡ Some raise.row
    named_row = row_at-put_same by_name nat_cmp_total raise.row less.rows

    represents_raised : Represents (lifted t whole p d d2 r c n now parent name new_parent new_name is params names) (left t whole p d d2 r c n now parent name new_parent new_name is)
    represents_raised =
        let renamed : Represents (lifted t whole p d d2 r c n now parent name new_parent new_name is t.params names) (left t whole p d d2 r c n now parent name new_parent new_name is) =
        Represents-names unnamed names (λ x. true) (any_name unnamed) (KeepsBytes-put unnamed raise.row raise.kept) less.owes.rows.entries less.owes.rows.attrs
        (left t whole p d d2 r c n now parent name new_parent new_name is) (less.represents (left t whole p d d2 r c n now parent name new_parent new_name is) represents_gone) in
        subst (λ (q : Option Parameters). Represents (record (lifted t whole p d d2 r c n now parent name new_parent new_name is t.params names) { params = q })
        (left t whole p d d2 r c n now parent name new_parent new_name is)) is.leaving.params renamed

    both : Owes after (record p { next_name = raise.next }) [] [] × Represents after next
    both =
        moved_to_new t whole p d d2 r c n now parent name new_parent new_name is params names absent (record p { next_name = raise.next }) raise.row.id
        raise.owes represents_raised (ap is_some named_row)
        (ap (λ (found : Option Name). unwrap_or (option_map (λ (x : Name). x.name) found) []) named_row ∙ raise.bytes)

    inode : next_inode_of t ≡ p.next_inode
    inode = ap (λ (found : Option Parameters). unwrap_or (option_map (λ q. q.next_inode) found) 0) is.leaving.params

    id : next_name_of t ≡ p.next_name
    id = ap (λ (found : Option Parameters). unwrap_or (option_map (λ q. q.next_name) found) 0) is.leaving.params

    rest : ℕ → List Change
    rest m =
        changes.PutContent (record { parent = d2.id; name_id = m; inode = r.id }) ∷ changes.PutInode (touched_row now d2) ∷ changes.PutInode (stamped_row now r) ∷ []

    after_is : tables_after (moving d d2 c (other_name n more) r now) t ≡ after
    unfolding rest
    after_is =
        sym (tables_after-tables_after (lowered n ++ more.changes) (rest more.id) gone)
        ∙ ap (tables_after (rest more.id)) (sym (tables_after-tables_after (lowered n) more.changes gone) ∙ ap (tables_after more.changes) less.after ∙ raise.after)
        ∙ ap (λ m. tables_after (rest m) (lifted t whole p d d2 r c n now parent name new_parent new_name is params names)) (sym raise.id)

    pub IsStep-other_name : IsStep t (tables_after (moving d d2 c (other_name n more) r now) t) next 1
    IsStep-other_name =
        subst (λ (u : Tables). IsStep t u next 1) (sym after_is) (record {
          valid = IsValid_from_tree after next (HasPremises-Owes after (record p { next_name = raise.next }) both.0) both.1 well;
          represents = both.1;
          unique = λ unique. raise.unique (less.unique unique);
          rest = LeavesRest-LeavesBlocks t after (record {
            params = sym (ap (option_map settings) is.leaving.params);
            next_inode = omega (arith, inode);
            next_name = omega (arith, id, raise.least);
            inode_blocks = refl;
            blocks = refl;
            objects = refl;
            slots = refl;
          });
          small = record { names = omega (arith, id, raise.most); uses = omega (arith, fewer raise.row.id) };
        })
