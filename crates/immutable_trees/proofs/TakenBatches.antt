-- Batches of entries that go, and rows of inodes after a batch.
use Rattle.std.proofs.Common.{◌≡◌, ℕ, ◌-◌, List, [], ◌∷◌, ◌++◌, Bool, cond, Option, Some, sym, ap, ◌∙◌, append_assoc}
use Rattle.s3_rows.specs.declared.change.Change.{Change}
use Rattle.s3_rows.specs.declared.change.Change.TheVariants as changes
use Rattle.s3_rows.specs.declared.row_id.RowId.TheVariants as ids
use Rattle.s3_rows.specs.Batches.{tables_after}
use Rattle.s3_rows.specs.Rows.{Attr, Content, Inode, InodeBlock, Name, Target}
use Rattle.s3_rows.specs.Selections.{name_at, target_at}
use Rattle.s3_rows.specs.Tables.{Tables}
use Rattle.row_lemmas.proofs.Tables.{tables_after-tables_after}
use Rattle.ref_counts.specs.Links.{places_dropped, places_from, places_of_gone}
use Rattle.ref_counts.specs.Names.{lowered, lowered_at, lowered_of}
use Rattle.ref_counts.specs.Removals.{attrs_dropped, attrs_of, removal, target_dropped}
use Rattle.row_steps.specs.RowChanges.{counted_row, dropping}
use Rattle.row_steps.proofs.WithPlaces.{name_at-places_of_gone}
use Rattle.immutable_trees.specs.RemovedRows.{HasOwn, file_taken, folder_taken, taking, uprooted}

-- ---- what is told is what is there by now

removal_told : (told t u : Tables) (x : ℕ) → HasOwn told t x → removal told x u ≡ removal t x u
removal_told told t u x own =
    ap (λ (attrs : List Attr). attrs_dropped attrs u ++ target_dropped (target_at told x) x ++ changes.DeleteInode x ∷ []) (sym own.attrs)
    ∙ ap (λ (target : Option Target). attrs_dropped (attrs_of t x) u ++ target_dropped target x ++ changes.DeleteInode x ∷ []) (sym own.target)

places_told : (told t u : Tables) (kept : Bool) (x : ℕ) → HasOwn told t x → cond kept [] (places_dropped (places_from told x 0) u) ≡ cond kept [] (places_dropped (places_from t x 0) u)
places_told told t u kept x own = ap (λ (rows : List InodeBlock). cond kept [] (places_dropped rows u)) (sym own.places)

-- ---- batches

module _ (told : Tables) (old : List Change) where
  abbrev t : Tables
  t = tables_after old told

  after : (more : List Change) → tables_after (old ++ more) told ≡ tables_after more t
  after more = sym (tables_after-tables_after old more told)

  pub entry_batch : (c : Content) (n : Name) (pushed new : List Change) → name_at t c.name_id ≡ Some n → pushed ≡ old ++ changes.DeleteContent c.parent c.name_id ∷ []
      → new ≡ pushed ++ lowered_at (tables_after pushed told) c.name_id → new ≡ old ++ taking c n
  entry_batch c n pushed new named is added =
      let one : List Change = changes.DeleteContent c.parent c.name_id ∷ [] in
      added ∙ ap (λ (b : List Change). b ++ lowered_at (tables_after b told) c.name_id) is
      ∙ ap (λ (u : Tables). old ++ one ++ lowered_at u c.name_id) (after one)
      ∙ ap (λ (found : Option Name). old ++ one ++ lowered_of found) named ∙ append_assoc old one (lowered n)

  pub folder_batch : (c : Content) (n : Name) (r : Inode) (first new : List Change) → HasOwn told t r.id → r.id ≡ c.inode → first ≡ old ++ taking c n
      → new ≡ first ++ removal told c.inode (tables_after first told) → new ≡ old ++ folder_taken t c n r
  folder_batch c n r first new own number is added =
      added ∙ ap (λ (b : List Change). b ++ removal told c.inode (tables_after b told)) is
      ∙ ap (λ (u : Tables). old ++ taking c n ++ removal told c.inode u) (after (taking c n))
      ∙ ap (λ x. old ++ taking c n ++ removal told x (tables_after (taking c n) t)) (sym number)
      ∙ ap (λ (cs : List Change). old ++ taking c n ++ cs) (removal_told told t (tables_after (taking c n) t) r.id own)
      ∙ append_assoc old (taking c n) (removal t r.id (tables_after (taking c n) t))

  pub file_batch : (kept : Bool) (now : ℕ) (c : Content) (n : Name) (r : Inode) (places first new : List Change) → HasOwn told t r.id → name_at t c.name_id ≡ Some n
      → places ≡ old ++ cond kept [] (places_dropped (places_from told r.id 0) t)
      → (name_at (tables_after places told) c.name_id ≡ Some n → first ≡ places ++ taking c n)
      → new ≡ first ++ cond kept (changes.PutInode (counted_row (r.refcount - 1) now r) ∷ []) (removal told r.id (tables_after first told))
      → new ≡ old ++ file_taken kept now t c n r
  file_batch kept now c n r places first new own named is taken added =
      let gone : List Change = places_of_gone kept t r.id in
      let first_is : places ≡ old ++ gone = is ∙ ap (λ (cs : List Change). old ++ cs) (places_told told t t kept r.id own) in
      let named_now : name_at (tables_after places told) c.name_id ≡ Some n =
      ap (λ (b : List Change). name_at (tables_after b told) c.name_id) first_is ∙ ap (λ (u : Tables). name_at u c.name_id) (after gone)
      ∙ name_at-places_of_gone t kept r.id c.name_id ∙ named in
      let next_is : first ≡ old ++ (gone ++ taking c n) =
      taken named_now ∙ ap (λ (b : List Change). b ++ taking c n) first_is ∙ append_assoc old gone (taking c n) in
      let last : Tables → List Change = λ u. cond kept (changes.PutInode (counted_row (r.refcount - 1) now r) ∷ []) (removal told r.id u) in
      added ∙ ap (λ (b : List Change). b ++ last (tables_after b told)) next_is
      ∙ ap (λ (u : Tables). old ++ (gone ++ taking c n) ++ last u) (after (gone ++ taking c n))
      ∙ ap (λ (cs : List Change). old ++ (gone ++ taking c n) ++ cond kept (changes.PutInode (counted_row (r.refcount - 1) now r) ∷ []) cs)
      (removal_told told t (tables_after (gone ++ taking c n) t) r.id own)
      ∙ append_assoc old (gone ++ taking c n) (cond kept (changes.PutInode (counted_row (r.refcount - 1) now r) ∷ []) (removal t r.id (tables_after (gone ++ taking c n) t)))

  -- the last entry, whose directory is touched
  pub last_batch : (d : Inode) (c : Content) (n : Name) (r : Inode) (now : ℕ) (down new : List Change) → HasOwn told t r.id → r.id ≡ c.inode
      → down ≡ old ++ dropping d c n now → new ≡ down ++ removal told c.inode (tables_after down told) → new ≡ old ++ uprooted now t d r c n
  last_batch d c n r now down new own number is added =
      let dropped : List Change = dropping d c n now in
      added ∙ ap (λ (b : List Change). b ++ removal told c.inode (tables_after b told)) is
      ∙ ap (λ (u : Tables). old ++ dropped ++ removal told c.inode u) (after dropped)
      ∙ ap (λ x. old ++ dropped ++ removal told x (tables_after dropped t)) (sym number)
      ∙ ap (λ (cs : List Change). old ++ dropped ++ cs) (removal_told told t (tables_after dropped t) r.id own)
      ∙ append_assoc old dropped (removal t r.id (tables_after dropped t))
