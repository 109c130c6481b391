-- The batch of an entry that goes, with what goes with it.
use Rattle.std.proofs.Common.{◌≡◌, ℕ, ◌-◌, List, [], ◌∷◌, ◌++◌, Bool, cond, Option, Some, sym, ap, ◌∙◌, append_assoc}
use Rattle.s3_rows.specs.declared.change.Change.{Change}
use Rattle.s3_rows.specs.declared.change.Change.TheVariants as changes
use Rattle.s3_rows.specs.Rows.{Content, Inode, Name}
use Rattle.s3_rows.specs.Tables.{Tables}
use Rattle.s3_rows.specs.Batches.{tables_after}
use Rattle.s3_rows.specs.Selections.{name_at}
use Rattle.row_lemmas.proofs.Tables.{tables_after-tables_after}
use Rattle.ref_counts.specs.Links.{places_of_gone}
use Rattle.ref_counts.specs.Names.{lowered, lowered_at, lowered_of}
use Rattle.ref_counts.specs.Removals.{removal}
use Rattle.row_steps.specs.RowChanges.{counted_row, dropping, moving, name_of_replaced, replacing, stamped_row, touched_row, unlinking}
use Rattle.row_steps.proofs.WithPlaces.{name_at-places_of_gone}

-- the entry goes, and its name is used once less
pub entry_dropped : (t : Tables) (batch pushed after : List Change) (d : Inode) (e : Content) (n : Name) (now : ℕ)
    → pushed ≡ batch ++ changes.DeleteContent e.parent e.name_id ∷ changes.PutInode (touched_row now d) ∷ [] → name_at (tables_after batch t) e.name_id ≡ Some n
    → after ≡ pushed ++ lowered_at (tables_after pushed t) e.name_id → after ≡ batch ++ dropping d e n now
entry_dropped t batch pushed after d e n now is there added =
    let two : List Change = changes.DeleteContent e.parent e.name_id ∷ changes.PutInode (touched_row now d) ∷ [] in
    added ∙ ap (λ (b : List Change). b ++ lowered_at (tables_after b t) e.name_id) is
    ∙ ap (λ (u : Tables). batch ++ two ++ lowered_at u e.name_id) (sym (tables_after-tables_after batch two t))
    ∙ ap (λ (found : Option Name). batch ++ two ++ lowered_of found) there ∙ append_assoc batch two (lowered n)

module _ (t : Tables) (kept : Bool) (places dropped : List Change) (d : Inode) (e : Content) (n : Name) (now : ℕ) (named : name_at t e.name_id ≡ Some n)
    (drops : (m : Name) → name_at (tables_after places t) e.name_id ≡ Some m → dropped ≡ places ++ dropping d e m now) where
  dropped_is : (inode : ℕ) → places ≡ places_of_gone kept t inode → dropped ≡ places_of_gone kept t inode ++ dropping d e n now
  dropped_is inode is =
      drops n (ap (λ (b : List Change). name_at (tables_after b t) e.name_id) is ∙ name_at-places_of_gone t kept inode e.name_id ∙ named)
      ∙ ap (λ (b : List Change). b ++ dropping d e n now) is

  -- its inode counts one link less, or goes after its places
  pub link_dropped : (r : Inode) (after : List Change) → places ≡ places_of_gone kept t r.id
      → after ≡ dropped ++ cond kept (changes.PutInode (counted_row (r.refcount - 1) now r) ∷ []) (removal t r.id (tables_after dropped t))
      → after ≡ unlinking kept t d r e n now
  link_dropped r after is added =
      added ∙ ap (λ (b : List Change). b ++ cond kept (changes.PutInode (counted_row (r.refcount - 1) now r) ∷ []) (removal t r.id (tables_after b t))) (dropped_is r.id is)

  -- so does the inode of the entry that it takes the place of
  pub link_replaced : (d2 r replaced : Inode) (old : Content) (put after : List Change) → places ≡ places_of_gone kept t replaced.id
      → put ≡ dropped ++ changes.PutContent (record { parent = d2.id; name_id = old.name_id; inode = r.id }) ∷ changes.PutInode (touched_row now d2) ∷ changes.PutInode (stamped_row now r) ∷ []
      → after ≡ put ++ cond kept (changes.PutInode (counted_row (replaced.refcount - 1) now replaced) ∷ []) (removal t replaced.id (tables_after put t))
      → after ≡ replacing kept t d d2 r replaced e old n now
  link_replaced d2 r replaced old put after is put_is added =
      let rest : List Change = changes.PutContent (record { parent = d2.id; name_id = old.name_id; inode = r.id }) ∷ changes.PutInode (touched_row now d2) ∷ changes.PutInode (stamped_row now r) ∷ [] in
      let moved : put ≡ places_of_gone kept t replaced.id ++ moving d d2 e (name_of_replaced n old) r now =
      put_is ∙ ap (λ (b : List Change). b ++ rest) (dropped_is replaced.id is) ∙ append_assoc (places_of_gone kept t replaced.id) (dropping d e n now) rest in
      added ∙ ap (λ (b : List Change). b ++ cond kept (changes.PutInode (counted_row (replaced.refcount - 1) now replaced) ∷ []) (removal t replaced.id (tables_after b t))) moved
