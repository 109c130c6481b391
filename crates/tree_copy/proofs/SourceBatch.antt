-- The batch of the source's own part: its node, its entry, and its directory touched.
use Rattle.std.proofs.Common.{◌≡◌, ℕ, List, [], ◌∷◌, ◌++◌, Bool, true, false, cond, None, Some, refl, sym, ap, ◌∙◌, subst}
use Rattle.std.specs.Prelude.{◌&&◌, is_some}
use Rattle.s3_rows.specs.declared.change.Change.{Change}
use Rattle.s3_rows.specs.declared.change.Change.TheVariants as changes
use Rattle.s3_rows.specs.Batches.{tables_after}
use Rattle.s3_rows.specs.Rows.{Inode}
use Rattle.s3_rows.specs.Tables.{Tables}
use Rattle.ref_counts.specs.Names.{StaysUnique, raised}
use Rattle.row_steps.specs.RowChanges.{touched_row}
use Rattle.tree_copy.specs.CopiedNames.{may_draw}
use Rattle.tree_copy.specs.CopiedRows.{entry_copied, node_copied, node_fits, source_copied, source_fits}
use Rattle.tree_copy.specs.CopyWalks.{source_batch}
use Rattle.tree_copy.proofs.NextAttrs.{StaysUnique-append, unique_end}

first_fails : (a b c : Bool) → (a && b) ≡ false → (a && (b && c)) ≡ false
first_fails true true c is = absurd (cc is)
first_fails true false c is = refl
first_fails false b c is = refl

last_is : (a b c : Bool) → (a && b) ≡ true → (a && (b && c)) ≡ c
last_is true true c is = refl
last_is true false c is = absurd (cc is)
last_is false b c is = absurd (cc is)

module _ (t : Tables) (next now : ℕ) (top directory : Inode) (name : List ℕ) where
  abbrev node : List Change
  node = node_copied t next now top t

  abbrev fits : Bool
  fits = may_draw t.params && source_fits t next now top name

  -- the batch is as these tests say
  worn : fits ≡ false → None ≡ source_batch t next now top directory name
  worn is = sym (ap (λ b. cond b (Some (source_copied t next now top directory name)) None) is)

  node_test : (batch : List Change) → batch ≡ [] → (may_draw (tables_after batch t).params && node_fits t next now top (tables_after batch t)) ≡ (may_draw t.params && node_fits t next now top t)
  node_test batch empty = ap (λ (b : List Change). may_draw (tables_after b t).params && node_fits t next now top (tables_after b t)) empty

  node_is : (batch after : List Change) → batch ≡ [] → after ≡ batch ++ node_copied t next now top (tables_after batch t) → after ≡ node_copied t next now top t
  node_is batch after empty added = added ∙ ap (λ (b : List Change). b ++ node_copied t next now top (tables_after b t)) empty

  -- the node does not fit
  pub source_node_worn : (batch : List Change) → batch ≡ [] → false ≡ (may_draw (tables_after batch t).params && node_fits t next now top (tables_after batch t))
      → None ≡ source_batch t next now top directory name
  source_node_worn batch empty is =
      worn (first_fails (may_draw t.params) (node_fits t next now top t) (is_some (raised (tables_after (node_copied t next now top t) t) name)) (sym (is ∙ node_test batch empty)))

  entry_test : (batch after : List Change) (b : Bool) → batch ≡ [] → true ≡ (may_draw (tables_after batch t).params && node_fits t next now top (tables_after batch t))
      → after ≡ batch ++ node_copied t next now top (tables_after batch t) → b ≡ is_some (raised (tables_after after t) name) → fits ≡ b
  entry_test batch after b empty node_fit added is =
      last_is (may_draw t.params) (node_fits t next now top t) (is_some (raised (tables_after (node_copied t next now top t) t) name)) (sym (node_fit ∙ node_test batch empty))
      ∙ ap (λ (cs : List Change). is_some (raised (tables_after cs t) name)) (sym (node_is batch after empty added)) ∙ sym is

  -- its entry does not
  pub source_entry_worn : (batch after : List Change) → batch ≡ [] → true ≡ (may_draw (tables_after batch t).params && node_fits t next now top (tables_after batch t))
      → after ≡ batch ++ node_copied t next now top (tables_after batch t) → false ≡ is_some (raised (tables_after after t) name) → None ≡ source_batch t next now top directory name
  source_entry_worn batch after empty node_fit added is = worn (entry_test batch after false empty node_fit added is)

  -- both do
  pub source_added : (batch one two three : List Change) → batch ≡ [] → true ≡ (may_draw (tables_after batch t).params && node_fits t next now top (tables_after batch t))
      → one ≡ batch ++ node_copied t next now top (tables_after batch t) → true ≡ is_some (raised (tables_after one t) name)
      → two ≡ one ++ entry_copied directory.id name next (tables_after one t) → three ≡ two ++ changes.PutInode (touched_row now directory) ∷ []
      → Some three ≡ source_batch t next now top directory name
  source_added batch one two three empty node_fit node_added entry_fit entry_added touched =
      let touch : List Change = changes.PutInode (touched_row now directory) ∷ [] in
      ap Some (touched ∙ ap (λ (cs : List Change). cs ++ touch) (entry_added ∙ ap (λ (cs : List Change). cs ++ entry_copied directory.id name next (tables_after cs t)) (node_is batch one empty node_added)))
      ∙ sym (ap (λ b. cond b (Some (source_copied t next now top directory name)) None) (entry_test batch one true empty node_fit node_added entry_fit))

-- a touched directory leaves names as they are
pub touch_unique : (t : Tables) (batch after cs : List Change) (row : Inode) → StaysUnique batch t → after ≡ batch ++ changes.PutInode row ∷ [] → Some after ≡ Some cs → StaysUnique cs t
touch_unique t batch after cs row unique added is =
    let same : after ≡ cs = cc is in
    subst (λ (b : List Change). StaysUnique b t) (sym added ∙ same)
    (StaysUnique-append batch (changes.PutInode row ∷ []) t unique (unique_end batch t unique, unique_end batch t unique))
