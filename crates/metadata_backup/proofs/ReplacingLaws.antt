-- What the batch makes of tables that puts others in their place.
use Rattle.std.proofs.Common.{◌≡◌, Bool, true, cond, IsTrue, List, [], ◌∷◌, ◌++◌, map, Option, Some, refl, sym, ap, ◌∙◌, subst, append_assoc, append-nil}
use Rattle.std.specs.Prelude.{not, reverse}
use Rattle.std.specs.List.{list_all}
use Rattle.std.specs.Cmp.{IsTotalOrder, nat_cmp_total}
use Rattle.std.specs.declared.cmp.Ordering.{Ordering}
use Rattle.std.specs.declared.cmp.Ordering.TheVariants.{Less, Greater}
use Rattle.std.specs.Ordering.{is_eq, ordering_reverse}
use Rattle.std.proofs.lemmas.Bool.{and_parts, and_from}
use Rattle.std.proofs.lemmas.Cmp.{tied_itself}
use Rattle.std.proofs.lemmas.List.{map-append, reverse-append}
use Rattle.s3_rows.specs.declared.change.Change.{Change}
use Rattle.s3_rows.specs.declared.change.Change.TheVariants as changes
use Rattle.s3_rows.specs.Rows.{Parameters}
use Rattle.s3_rows.specs.Keyed.{Order, put, without, rises, is_past}
use Rattle.s3_rows.specs.Tables.{Tables, IsOrdered, by_inode, by_name, by_entry, by_spot, by_block, by_object, by_target, by_attr, by_slot}
use Rattle.s3_rows.specs.Batches.{after_change, tables_after}
use Rattle.row_lemmas.proofs.Keyed.Put.{put_greater}
use Rattle.row_lemmas.proofs.Tests.{less_from_is_lt}
use Rattle.row_lemmas.proofs.Tables.{pair_cmp_total, tables_after-tables_after}
use Rattle.metadata_backup.specs.Replacing.{RowChanges, deletes, puts, first_deletes, last_deletes, first_puts, last_puts, replacement, inode_changes, name_changes, content_changes, inode_block_changes, block_changes, object_changes, target_changes, attr_changes, slot_changes}

-- ---- one table

module _ {K R : Type 0} (o : Order K R) (total : IsTotalOrder o.compare) where
  list_all-last : (p : R → Bool) (xs : List R) (r : R) → IsTrue (list_all p (xs ++ r ∷ [])) → IsTrue (p r)
  list_all-last p [] r all = (and_parts (p r) true all).0
  list_all-last p (x ∷ xs) r all = list_all-last p xs r (and_parts (p x) (list_all p (xs ++ r ∷ [])) all).1

  -- a row past all others is put behind them
  put-last : (done : List R) (r : R) → IsTrue (rises o (done ++ r ∷ [])) → put o r done ≡ done ++ r ∷ []
  put-last [] r up = refl
  put-last (x ∷ xs) r up =
      let parts = and_parts (list_all (is_past o (o.key x)) (xs ++ r ∷ [])) (rises o (xs ++ r ∷ [])) up in
      let below : o.compare (o.key x) (o.key r) ≡ Less = less_from_is_lt (o.compare (o.key x) (o.key r)) (list_all-last (is_past o (o.key x)) xs r parts.0) in
      let above : o.compare (o.key r) (o.key x) ≡ Greater = total.antisymm (o.key r) (o.key x) ∙ ap ordering_reverse below in
      put_greater o r x xs above ∙ ap (λ (ys : List R). x ∷ ys) (put-last xs r parts.1)

  -- and a delete takes it off the end
  without-last : (done : List R) (r : R) → IsTrue (rises o (done ++ r ∷ [])) → without o (o.key r) (done ++ r ∷ []) ≡ done
  without-last [] r up =
      ap (λ (c : Ordering). cond (not (is_eq c)) (r ∷ []) []) (tied_itself total (o.key r))
  without-last (x ∷ xs) r up =
      let parts = and_parts (list_all (is_past o (o.key x)) (xs ++ r ∷ [])) (rises o (xs ++ r ∷ [])) up in
      let below : o.compare (o.key x) (o.key r) ≡ Less = less_from_is_lt (o.compare (o.key x) (o.key r)) (list_all-last (is_past o (o.key x)) xs r parts.0) in
      let above : o.compare (o.key r) (o.key x) ≡ Greater = total.antisymm (o.key r) (o.key x) ∙ ap ordering_reverse below in
      ap (λ (c : Ordering). cond (not (is_eq c)) (x ∷ without o (o.key r) (xs ++ r ∷ [])) (without o (o.key r) (xs ++ r ∷ []))) above
      ∙ ap (λ (ys : List R). x ∷ ys) (without-last xs r parts.1)

  list_all-front : (p : R → Bool) (xs : List R) (r : R) (rs : List R) → IsTrue (list_all p (xs ++ r ∷ rs)) → IsTrue (list_all p (xs ++ r ∷ []))
  list_all-front p [] r rs all = and_from (p r) true (and_parts (p r) (list_all p rs) all).0 refl
  list_all-front p (x ∷ xs) r rs all =
      let parts = and_parts (p x) (list_all p (xs ++ r ∷ rs)) all in
      and_from (p x) (list_all p (xs ++ r ∷ [])) parts.0 (list_all-front p xs r rs parts.1)

  rises_front : (done : List R) (r : R) (rs : List R) → IsTrue (rises o (done ++ r ∷ rs)) → IsTrue (rises o (done ++ r ∷ []))
  rises_front [] r rs up = refl
  rises_front (x ∷ xs) r rs up =
      let parts = and_parts (list_all (is_past o (o.key x)) (xs ++ r ∷ rs)) (rises o (xs ++ r ∷ rs)) up in
      and_from (list_all (is_past o (o.key x)) (xs ++ r ∷ [])) (rises o (xs ++ r ∷ [])) (list_all-front (is_past o (o.key x)) xs r rs parts.0) (rises_front xs r rs parts.1)

  module _ (c : RowChanges R)
      (puts_row : (r : R) (t : Tables) → after_change (c.put_of r) t ≡ c.with_rows (put o r (c.rows t)) t)
      (deletes_row : (r : R) (t : Tables) → after_change (c.delete_of r) t ≡ c.with_rows (without o (o.key r) (c.rows t)) t)
      (got : (rows : List R) (t : Tables) → c.rows (c.with_rows rows t) ≡ rows)
      (again : (xs ys : List R) (t : Tables) → c.with_rows xs (c.with_rows ys t) ≡ c.with_rows xs t)
      (same : (t : Tables) → c.with_rows (c.rows t) t ≡ t) where
    puts_from : (done rows : List R) (t : Tables) → IsTrue (rises o (done ++ rows))
        → tables_after (map c.put_of rows) (c.with_rows done t) ≡ c.with_rows (done ++ rows) t
    puts_from done [] t up = ap (λ (xs : List R). c.with_rows xs t) (sym (append-nil done))
    puts_from done (r ∷ rs) t up =
        let one : after_change (c.put_of r) (c.with_rows done t) ≡ c.with_rows (done ++ r ∷ []) t =
        puts_row r (c.with_rows done t) ∙ ap (λ (xs : List R). c.with_rows (put o r xs) (c.with_rows done t)) (got done t)
        ∙ again (put o r done) done t ∙ ap (λ (xs : List R). c.with_rows xs t) (put-last done r (rises_front done r rs up)) in
        let more : IsTrue (rises o ((done ++ r ∷ []) ++ rs)) = subst (λ (xs : List R). IsTrue (rises o xs)) (sym (append_assoc done (r ∷ []) rs)) up in
        ap (tables_after (map c.put_of rs)) one ∙ puts_from (done ++ r ∷ []) rs t more
        ∙ ap (λ (xs : List R). c.with_rows xs t) (append_assoc done (r ∷ []) rs)

    deletes_from : (done rows : List R) (t : Tables) → IsTrue (rises o (done ++ rows))
        → tables_after (map c.delete_of (reverse rows)) (c.with_rows (done ++ rows) t) ≡ c.with_rows done t
    deletes_from done [] t up = ap (λ (xs : List R). c.with_rows xs t) (append-nil done)
    deletes_from done (r ∷ rs) t up =
        let more : IsTrue (rises o ((done ++ r ∷ []) ++ rs)) = subst (λ (xs : List R). IsTrue (rises o xs)) (sym (append_assoc done (r ∷ []) rs)) up in
        let others : tables_after (map c.delete_of (reverse rs)) (c.with_rows (done ++ r ∷ rs) t) ≡ c.with_rows (done ++ r ∷ []) t =
        ap (λ (xs : List R). tables_after (map c.delete_of (reverse rs)) (c.with_rows xs t)) (sym (append_assoc done (r ∷ []) rs))
        ∙ deletes_from (done ++ r ∷ []) rs t more in
        let one : after_change (c.delete_of r) (c.with_rows (done ++ r ∷ []) t) ≡ c.with_rows done t =
        deletes_row r (c.with_rows (done ++ r ∷ []) t)
        ∙ ap (λ (xs : List R). c.with_rows (without o (o.key r) xs) (c.with_rows (done ++ r ∷ []) t)) (got (done ++ r ∷ []) t)
        ∙ again (without o (o.key r) (done ++ r ∷ [])) (done ++ r ∷ []) t
        ∙ ap (λ (xs : List R). c.with_rows xs t) (without-last done r (rises_front done r rs up)) in
        ap (λ (cs : List Change). tables_after cs (c.with_rows (done ++ r ∷ rs) t)) (ap (map c.delete_of) (reverse-append (r ∷ []) rs) ∙ map-append c.delete_of (reverse rs) (r ∷ []))
        ∙ sym (tables_after-tables_after (map c.delete_of (reverse rs)) (c.delete_of r ∷ []) (c.with_rows (done ++ r ∷ rs) t))
        ∙ ap (tables_after (c.delete_of r ∷ [])) others ∙ one

    -- all rows of the table go
    tables_after-deletes : (t : Tables) (rest : List Change) → IsTrue (rises o (c.rows t)) → tables_after (deletes c t ++ rest) t ≡ tables_after rest (c.with_rows [] t)
    tables_after-deletes t rest up =
        sym (tables_after-tables_after (deletes c t) rest t)
        ∙ ap (tables_after rest) (ap (tables_after (deletes c t)) (sym (same t)) ∙ deletes_from [] (c.rows t) t up)

    -- rows come into the empty table
    tables_after-puts : (t new : Tables) (rest : List Change) → c.rows t ≡ [] → IsTrue (rises o (c.rows new)) → tables_after (puts c new ++ rest) t ≡ tables_after rest (c.with_rows (c.rows new) t)
    tables_after-puts t new rest empty up =
        sym (tables_after-tables_after (puts c new) rest t)
        ∙ ap (tables_after rest) (ap (tables_after (puts c new)) (sym (ap (λ (xs : List R). c.with_rows xs t) (sym empty) ∙ same t)) ∙ puts_from [] (c.rows new) t up)

-- ---- all tables

inode_deletes : (t : Tables) (rest : List Change) → IsTrue (rises by_inode t.inodes) → tables_after (deletes inode_changes t ++ rest) t ≡ tables_after rest (record t { inodes = [] })
inode_deletes = tables_after-deletes by_inode nat_cmp_total inode_changes (λ r t. refl) (λ r t. refl) (λ rows t. refl) (λ xs ys t. refl) (λ t. refl)

inode_puts : (t new : Tables) (rest : List Change) → t.inodes ≡ [] → IsTrue (rises by_inode new.inodes) → tables_after (puts inode_changes new ++ rest) t ≡ tables_after rest (record t { inodes = new.inodes })
inode_puts = tables_after-puts by_inode nat_cmp_total inode_changes (λ r t. refl) (λ r t. refl) (λ rows t. refl) (λ xs ys t. refl) (λ t. refl)

name_deletes : (t : Tables) (rest : List Change) → IsTrue (rises by_name t.names) → tables_after (deletes name_changes t ++ rest) t ≡ tables_after rest (record t { names = [] })
name_deletes = tables_after-deletes by_name nat_cmp_total name_changes (λ r t. refl) (λ r t. refl) (λ rows t. refl) (λ xs ys t. refl) (λ t. refl)

name_puts : (t new : Tables) (rest : List Change) → t.names ≡ [] → IsTrue (rises by_name new.names) → tables_after (puts name_changes new ++ rest) t ≡ tables_after rest (record t { names = new.names })
name_puts = tables_after-puts by_name nat_cmp_total name_changes (λ r t. refl) (λ r t. refl) (λ rows t. refl) (λ xs ys t. refl) (λ t. refl)

content_deletes : (t : Tables) (rest : List Change) → IsTrue (rises by_entry t.contents) → tables_after (deletes content_changes t ++ rest) t ≡ tables_after rest (record t { contents = [] })
content_deletes = tables_after-deletes by_entry pair_cmp_total content_changes (λ r t. refl) (λ r t. refl) (λ rows t. refl) (λ xs ys t. refl) (λ t. refl)

content_puts : (t new : Tables) (rest : List Change) → t.contents ≡ [] → IsTrue (rises by_entry new.contents) → tables_after (puts content_changes new ++ rest) t ≡ tables_after rest (record t { contents = new.contents })
content_puts = tables_after-puts by_entry pair_cmp_total content_changes (λ r t. refl) (λ r t. refl) (λ rows t. refl) (λ xs ys t. refl) (λ t. refl)

inode_block_deletes : (t : Tables) (rest : List Change) → IsTrue (rises by_spot t.inode_blocks) → tables_after (deletes inode_block_changes t ++ rest) t ≡ tables_after rest (record t { inode_blocks = [] })
inode_block_deletes = tables_after-deletes by_spot pair_cmp_total inode_block_changes (λ r t. refl) (λ r t. refl) (λ rows t. refl) (λ xs ys t. refl) (λ t. refl)

inode_block_puts : (t new : Tables) (rest : List Change) → t.inode_blocks ≡ [] → IsTrue (rises by_spot new.inode_blocks) → tables_after (puts inode_block_changes new ++ rest) t ≡ tables_after rest (record t { inode_blocks = new.inode_blocks })
inode_block_puts = tables_after-puts by_spot pair_cmp_total inode_block_changes (λ r t. refl) (λ r t. refl) (λ rows t. refl) (λ xs ys t. refl) (λ t. refl)

block_deletes : (t : Tables) (rest : List Change) → IsTrue (rises by_block t.blocks) → tables_after (deletes block_changes t ++ rest) t ≡ tables_after rest (record t { blocks = [] })
block_deletes = tables_after-deletes by_block nat_cmp_total block_changes (λ r t. refl) (λ r t. refl) (λ rows t. refl) (λ xs ys t. refl) (λ t. refl)

block_puts : (t new : Tables) (rest : List Change) → t.blocks ≡ [] → IsTrue (rises by_block new.blocks) → tables_after (puts block_changes new ++ rest) t ≡ tables_after rest (record t { blocks = new.blocks })
block_puts = tables_after-puts by_block nat_cmp_total block_changes (λ r t. refl) (λ r t. refl) (λ rows t. refl) (λ xs ys t. refl) (λ t. refl)

object_deletes : (t : Tables) (rest : List Change) → IsTrue (rises by_object t.objects) → tables_after (deletes object_changes t ++ rest) t ≡ tables_after rest (record t { objects = [] })
object_deletes = tables_after-deletes by_object nat_cmp_total object_changes (λ r t. refl) (λ r t. refl) (λ rows t. refl) (λ xs ys t. refl) (λ t. refl)

object_puts : (t new : Tables) (rest : List Change) → t.objects ≡ [] → IsTrue (rises by_object new.objects) → tables_after (puts object_changes new ++ rest) t ≡ tables_after rest (record t { objects = new.objects })
object_puts = tables_after-puts by_object nat_cmp_total object_changes (λ r t. refl) (λ r t. refl) (λ rows t. refl) (λ xs ys t. refl) (λ t. refl)

target_deletes : (t : Tables) (rest : List Change) → IsTrue (rises by_target t.targets) → tables_after (deletes target_changes t ++ rest) t ≡ tables_after rest (record t { targets = [] })
target_deletes = tables_after-deletes by_target nat_cmp_total target_changes (λ r t. refl) (λ r t. refl) (λ rows t. refl) (λ xs ys t. refl) (λ t. refl)

target_puts : (t new : Tables) (rest : List Change) → t.targets ≡ [] → IsTrue (rises by_target new.targets) → tables_after (puts target_changes new ++ rest) t ≡ tables_after rest (record t { targets = new.targets })
target_puts = tables_after-puts by_target nat_cmp_total target_changes (λ r t. refl) (λ r t. refl) (λ rows t. refl) (λ xs ys t. refl) (λ t. refl)

attr_deletes : (t : Tables) (rest : List Change) → IsTrue (rises by_attr t.attrs) → tables_after (deletes attr_changes t ++ rest) t ≡ tables_after rest (record t { attrs = [] })
attr_deletes = tables_after-deletes by_attr pair_cmp_total attr_changes (λ r t. refl) (λ r t. refl) (λ rows t. refl) (λ xs ys t. refl) (λ t. refl)

attr_puts : (t new : Tables) (rest : List Change) → t.attrs ≡ [] → IsTrue (rises by_attr new.attrs) → tables_after (puts attr_changes new ++ rest) t ≡ tables_after rest (record t { attrs = new.attrs })
attr_puts = tables_after-puts by_attr pair_cmp_total attr_changes (λ r t. refl) (λ r t. refl) (λ rows t. refl) (λ xs ys t. refl) (λ t. refl)

slot_deletes : (t : Tables) (rest : List Change) → IsTrue (rises by_slot t.slots) → tables_after (deletes slot_changes t ++ rest) t ≡ tables_after rest (record t { slots = [] })
slot_deletes = tables_after-deletes by_slot nat_cmp_total slot_changes (λ r t. refl) (λ r t. refl) (λ rows t. refl) (λ xs ys t. refl) (λ t. refl)

slot_puts : (t new : Tables) (rest : List Change) → t.slots ≡ [] → IsTrue (rises by_slot new.slots) → tables_after (puts slot_changes new ++ rest) t ≡ tables_after rest (record t { slots = new.slots })
slot_puts = tables_after-puts by_slot nat_cmp_total slot_changes (λ r t. refl) (λ r t. refl) (λ rows t. refl) (λ xs ys t. refl) (λ t. refl)

first_deletes-flat : (t : Tables) (rest : List Change) → first_deletes t ++ rest ≡ (deletes inode_changes t ++ (deletes name_changes t ++ (deletes content_changes t ++ (deletes inode_block_changes t ++ rest))))
first_deletes-flat t rest = simp append_assoc

last_deletes-flat : (t : Tables) (rest : List Change) → last_deletes t ++ rest ≡ (deletes block_changes t ++ (deletes object_changes t ++ (deletes target_changes t ++ (deletes attr_changes t ++ (deletes slot_changes t ++ rest)))))
last_deletes-flat t rest = simp append_assoc

first_puts-flat : (t : Tables) (rest : List Change) → first_puts t ++ rest ≡ (puts inode_changes t ++ (puts name_changes t ++ (puts content_changes t ++ (puts inode_block_changes t ++ rest))))
first_puts-flat t rest = simp append_assoc

last_puts-flat : (t : Tables) (rest : List Change) → last_puts t ++ rest ≡ (puts block_changes t ++ (puts object_changes t ++ (puts target_changes t ++ (puts attr_changes t ++ (puts slot_changes t ++ rest)))))
last_puts-flat t rest = simp append_assoc

tables_after-first_deletes : (t old : Tables) (rest : List Change) → IsOrdered t → first_deletes old ≡ first_deletes t
    → tables_after (first_deletes old ++ rest) t ≡ tables_after rest (record t { inodes = []; names = []; contents = []; inode_blocks = [] })
tables_after-first_deletes t old rest up same =
    ap (λ (cs : List Change). tables_after (cs ++ rest) t) same
    ∙ ap (λ (cs : List Change). tables_after cs t) (first_deletes-flat t rest)
    ∙ inode_deletes t (deletes name_changes t ++ (deletes content_changes t ++ (deletes inode_block_changes t ++ rest))) up.inodes
    ∙ name_deletes (record t { inodes = [] }) (deletes content_changes t ++ (deletes inode_block_changes t ++ rest)) up.names
    ∙ content_deletes (record t { inodes = []; names = [] }) (deletes inode_block_changes t ++ rest) up.contents
    ∙ inode_block_deletes (record t { inodes = []; names = []; contents = [] }) rest up.inode_blocks

tables_after-last_deletes : (t old : Tables) (rest : List Change) → IsOrdered t → last_deletes old ≡ last_deletes t
    → tables_after (last_deletes old ++ rest) t ≡ tables_after rest (record t { blocks = []; objects = []; targets = []; attrs = []; slots = [] })
tables_after-last_deletes t old rest up same =
    ap (λ (cs : List Change). tables_after (cs ++ rest) t) same
    ∙ ap (λ (cs : List Change). tables_after cs t) (last_deletes-flat t rest)
    ∙ block_deletes t (deletes object_changes t ++ (deletes target_changes t ++ (deletes attr_changes t ++ (deletes slot_changes t ++ rest)))) up.blocks
    ∙ object_deletes (record t { blocks = [] }) (deletes target_changes t ++ (deletes attr_changes t ++ (deletes slot_changes t ++ rest))) up.objects
    ∙ target_deletes (record t { blocks = []; objects = [] }) (deletes attr_changes t ++ (deletes slot_changes t ++ rest)) up.targets
    ∙ attr_deletes (record t { blocks = []; objects = []; targets = [] }) (deletes slot_changes t ++ rest) up.attrs
    ∙ slot_deletes (record t { blocks = []; objects = []; targets = []; attrs = [] }) rest up.slots

tables_after-first_puts : (t new : Tables) (rest : List Change) → IsOrdered new → t.inodes ≡ [] → t.names ≡ [] → t.contents ≡ [] → t.inode_blocks ≡ []
    → tables_after (first_puts new ++ rest) t ≡ tables_after rest (record t { inodes = new.inodes; names = new.names; contents = new.contents; inode_blocks = new.inode_blocks })
tables_after-first_puts t new rest up no_inodes no_names no_contents no_inode_blocks =
    ap (λ (cs : List Change). tables_after cs t) (first_puts-flat new rest)
    ∙ inode_puts t new (puts name_changes new ++ (puts content_changes new ++ (puts inode_block_changes new ++ rest))) no_inodes up.inodes
    ∙ name_puts (record t { inodes = new.inodes }) new (puts content_changes new ++ (puts inode_block_changes new ++ rest)) no_names up.names
    ∙ content_puts (record t { inodes = new.inodes; names = new.names }) new (puts inode_block_changes new ++ rest) no_contents up.contents
    ∙ inode_block_puts (record t { inodes = new.inodes; names = new.names; contents = new.contents }) new rest no_inode_blocks up.inode_blocks

tables_after-last_puts : (t new : Tables) (rest : List Change) → IsOrdered new → t.blocks ≡ [] → t.objects ≡ [] → t.targets ≡ [] → t.attrs ≡ [] → t.slots ≡ []
    → tables_after (last_puts new ++ rest) t ≡ tables_after rest (record t { blocks = new.blocks; objects = new.objects; targets = new.targets; attrs = new.attrs; slots = new.slots })
tables_after-last_puts t new rest up no_blocks no_objects no_targets no_attrs no_slots =
    ap (λ (cs : List Change). tables_after cs t) (last_puts-flat new rest)
    ∙ block_puts t new (puts object_changes new ++ (puts target_changes new ++ (puts attr_changes new ++ (puts slot_changes new ++ rest)))) no_blocks up.blocks
    ∙ object_puts (record t { blocks = new.blocks }) new (puts target_changes new ++ (puts attr_changes new ++ (puts slot_changes new ++ rest))) no_objects up.objects
    ∙ target_puts (record t { blocks = new.blocks; objects = new.objects }) new (puts attr_changes new ++ (puts slot_changes new ++ rest)) no_targets up.targets
    ∙ attr_puts (record t { blocks = new.blocks; objects = new.objects; targets = new.targets }) new (puts slot_changes new ++ rest) no_attrs up.attrs
    ∙ slot_puts (record t { blocks = new.blocks; objects = new.objects; targets = new.targets; attrs = new.attrs }) new rest no_slots up.slots

-- the new tables stand in place of the old ones, with the parameters
pub tables_after-replacement : (t new : Tables) (q : Option Parameters) (p : Parameters) → IsOrdered t → IsOrdered new
    → tables_after (replacement (record t { params = q }) new p) t ≡ record new { params = Some p }
unfolding replacement
tables_after-replacement t new q p up new_up =
    let end : List Change = changes.SetParams p ∷ [] in
    let half : Tables = record t { inodes = []; names = []; contents = []; inode_blocks = [] } in
    let none : Tables = record t { inodes = []; names = []; contents = []; inode_blocks = []; blocks = []; objects = []; targets = []; attrs = []; slots = [] } in
    let some : Tables = record none { inodes = new.inodes; names = new.names; contents = new.contents; inode_blocks = new.inode_blocks } in
    tables_after-first_deletes t t (last_deletes t ++ (first_puts new ++ (last_puts new ++ end))) up refl
    ∙ tables_after-last_deletes half t (first_puts new ++ (last_puts new ++ end)) (record { inodes = refl; names = refl; contents = refl; inode_blocks = refl; blocks = up.blocks; objects = up.objects; targets = up.targets; attrs = up.attrs; slots = up.slots }) refl
    ∙ tables_after-first_puts none new (last_puts new ++ end) new_up refl refl refl refl
    ∙ tables_after-last_puts some new end new_up refl refl refl refl refl
