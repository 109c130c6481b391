-- The names of a copy fit just where no name is used too often by it.
use Rattle.std.proofs.Common.{◌≡◌, ◌≤◌, ◌<◌, ℕ, ◌+◌, ◌^◌, List, [], ◌∷◌, ◌++◌, Bool, true, false, cond, Option, None, Some, inl, inr, refl, sym, ap, ◌∙◌, subst, arith}
use Rattle.std.proofs.lemmas.Bool.{and_from, and_parts, cases_lt, false_from_ne_true}
use Rattle.std.proofs.lemmas.List.Folds.{list_all-map}
use Rattle.std.specs.List.{cons_option, filter_map, list_all}
use Rattle.std.specs.Ordering.{is_eq}
use Rattle.plain_tree.specs.Below.{is_among}
use Rattle.std.specs.Prelude.{IsTrue, not, ◌&&◌, ◌==◌, filter, is_some, option_map}
use Rattle.s3_rows.specs.declared.change.Change.{Change}
use Rattle.s3_rows.specs.declared.change.Change.TheVariants as changes
use Rattle.s3_rows.specs.declared.lists.NamedAttr.{NamedAttr}
use Rattle.s3_rows.specs.declared.lists.NamedEntry.{NamedEntry}
use Rattle.s3_rows.specs.Batches.{tables_after}
use Rattle.s3_rows.specs.Keyed.{Order, sorted_by}
use Rattle.s3_rows.specs.Rows.{Attr, Content, Inode, Name}
use Rattle.s3_rows.specs.Selections.{by_attr_name, by_entry_name, bytes_cmp, name_at, name_of_bytes, named_attrs, named_entries}
use Rattle.s3_rows.specs.Tables.{Tables}
use Rattle.s3_rows.specs.Validity.{HasUniqueNames, IsValid}
use Rattle.row_lemmas.proofs.Keyed.Put.{list_all-put}
use Rattle.row_lemmas.proofs.Keyed.RowAt.{row_at_passes}
use Rattle.row_lemmas.proofs.Sums.{count_by_none}
use Rattle.row_lemmas.proofs.Tables.{IsOrdered-tables_after, tables_after-tables_after}
use Rattle.row_lemmas.proofs.Tests.{list_all_weaker}
use Rattle.tree_rows.proofs.NamedAttrs.{name_of_bytes-named}
use Rattle.ref_counts.specs.Names.{raised}
use Rattle.ref_counts.specs.Plans.{next_name_of}
use Rattle.row_steps.specs.RowChanges.{touched_row}
use Rattle.tree_copy.specs.CopiedRows.{AreVisits, Visit, entry_copied, names_fit, node_copied, node_fits, seen_after, source_copied, visits_copied, visits_fit}
use Rattle.tree_copy.specs.NameCounts.{IsNameSpent, IsTooOften, attr_names, copied_name_count, visit_names, visits_names}
use Rattle.tree_copy.proofs.NameTotals.{Counted-append, Have, counted_entry, counted_node, counted_visits, have_both}
use Rattle.tree_copy.proofs.NameUses.{Counted, Counted-same, HasItsNames, IsDrawn, IsDrawn-use, IsSpent, count_of, one_text, own_text, used, used-append, used-one, uses}

-- ---- names of valid tables have rows

module _ (t : Tables) (valid : IsValid t) (unique : HasUniqueNames t) where
  abbrev has_row : List ℕ → Bool
  has_row b = is_some (name_of_bytes t b)

  module _ {R S : Type 0} (id_of : R → ℕ) (made : R → Name → S) (text : S → List ℕ) (same : (r : R) (n : Name) → text (made r n) ≡ n.name) where
    rows_named : (rs : List R) → IsTrue (list_all (λ e. has_row (text e)) (filter_map (λ r. option_map (made r) (name_at t (id_of r))) rs))
    rows_named [] = refl
    rows_named (r ∷ rs) = by_row (rows_named rs) (name_at t (id_of r)) refl
      where
        by_row : IsTrue (list_all (λ e. has_row (text e)) (filter_map (λ x. option_map (made x) (name_at t (id_of x))) rs)) → (found : Option Name) → name_at t (id_of r) ≡ found
            → IsTrue (list_all (λ e. has_row (text e)) (cons_option (option_map (made r) found) (filter_map (λ x. option_map (made x) (name_at t (id_of x))) rs)))
        by_row others None none = others
        by_row others (Some n) there =
            and_from (has_row (text (made r n))) (list_all (λ e. has_row (text e)) (filter_map (λ x. option_map (made x) (name_at t (id_of x))) rs))
            (ap has_row (same r n) ∙ ap is_some (name_of_bytes-named t unique valid.ordered.names (id_of r) n there)) others

  all_sorted : {K R : Type 0} (o : Order K R) (p : R → Bool) (rows : List R) → IsTrue (list_all p rows) → IsTrue (list_all p (sorted_by o rows))
  all_sorted o p [] all = refl
  all_sorted o p (r ∷ rows) all =
      let parts = and_parts (p r) (list_all p rows) all in
      list_all-put o p r (sorted_by o rows) parts.0 (all_sorted o p rows parts.1)

  attrs_named : (id : ℕ) → IsTrue (list_all (λ (a : NamedAttr). has_row a.name) (named_attrs t id))
  attrs_named id =
      all_sorted by_attr_name (λ (a : NamedAttr). has_row a.name) (filter_map (λ (r : Attr). option_map (λ (n : Name). let a : NamedAttr = record { row = r; name = n.name } in a) (name_at t r.name_id)) (filter (λ (r : Attr). r.inode == id) t.attrs))
      (rows_named (λ (r : Attr). r.name_id) (λ r n. let a : NamedAttr = record { row = r; name = n.name } in a) (λ (a : NamedAttr). a.name) (λ r n. refl) (filter (λ (r : Attr). r.inode == id) t.attrs))

  entries_named : (id : ℕ) → IsTrue (list_all (λ (e : NamedEntry). has_row e.name) (named_entries t id))
  entries_named id =
      all_sorted by_entry_name (λ (e : NamedEntry). has_row e.name) (filter_map (λ (r : Content). option_map (λ (n : Name). let e : NamedEntry = record { row = r; name = n.name } in e) (name_at t r.name_id)) (filter (λ (r : Content). r.parent == id) t.contents))
      (rows_named (λ (r : Content). r.name_id) (λ r n. let e : NamedEntry = record { row = r; name = n.name } in e) (λ (e : NamedEntry). e.name) (λ r n. refl) (filter (λ (r : Content). r.parent == id) t.contents))

  -- names of rows alone
  have_all : (names : List (List ℕ)) → IsTrue (list_all has_row names) → Have t names
  have_all names all b least = by_row (name_of_bytes t b) refl
    where
      by_row : (found : Option Name) → name_of_bytes t b ≡ found → IsTrue (is_some (name_of_bytes t b))
      by_row (Some n) there = ap is_some there
      by_row None none = absurd (omega (arith, least, unused))
        where
          other : (x : List ℕ) → IsTrue (has_row x) → IsTrue (not (is_eq (bytes_cmp b x)))
          other x some =
              ap not (false_from_ne_true (is_eq (bytes_cmp b x)) (λ own.
              let clash : false ≡ true = sym (ap is_some (sym (ap (name_of_bytes t) (one_text b x own)) ∙ none)) ∙ some in
              cc clash))

          unused : used b names ≡ 0
          unused = count_by_none (λ x. is_eq (bytes_cmp b x)) names (list_all_weaker has_row (λ x. not (is_eq (bytes_cmp b x))) other names all)

  have_attrs : (id : ℕ) → Have t (attr_names t id)
  have_attrs id = have_all (attr_names t id) (list_all-map has_row (λ (a : NamedAttr). a.name) (named_attrs t id) ∙ attrs_named id)

  have_child : (again : Bool) (id : ℕ) → Have t (cond again [] (attr_names t id))
  have_child true id = have_all [] refl
  have_child false id = have_attrs id

  have_visits : (seen : List ℕ) (done visits : List Visit) → AreVisits t seen done visits → Have t (visits_names t seen visits)
  have_visits seen done [] are = have_all [] refl
  have_visits seen done (v ∷ visits) are =
      let entry : IsTrue (has_row v.entry.name) =
      row_at_passes by_entry_name (λ (e : NamedEntry). has_row e.name) v.entry.name (named_entries t v.directory) v.entry (entries_named v.directory) are.0.named in
      have_both t (visit_names t seen v) (visits_names t (seen_after seen v) visits)
      (have_both t (visit_attrs seen v) (v.entry.name ∷ []) (have_child (is_among seen v.child.id) v.child.id) (have_all (v.entry.name ∷ []) (and_from (has_row v.entry.name) true entry refl)))
      (have_visits (seen_after seen v) (done ++ v ∷ []) visits are.2)
    where
      visit_attrs : List ℕ → Visit → List (List ℕ)
      visit_attrs s x = cond (is_among s x.child.id) [] (attr_names t x.child.id)

  its_names : HasItsNames t
  its_names = record { params = valid.params; made = valid.is_made; ordered = valid.ordered; unique = unique; free = valid.free.names }

  -- ---- the source, and what is visited

  module _ (next now : ℕ) (source directory : Inode) (name : List ℕ) (visits : List Visit) (are : AreVisits t (source.id ∷ []) [] visits) where
    abbrev attrs : List (List ℕ)
    attrs = attr_names t source.id

    abbrev rest : List (List ℕ)
    rest = visits_names t (source.id ∷ []) visits

    abbrev first : Tables
    first = tables_after (node_copied t next now source t) t

    abbrev entry : List Change
    entry = entry_copied directory.id name next first

    abbrev second : Tables
    second = tables_after entry first

    abbrev touch : List Change
    touch = changes.PutInode (touched_row now directory) ∷ []

    abbrev third : Tables
    third = tables_after touch second

    abbrev node_is_fit : Bool
    node_is_fit = node_fits t next now source t

    abbrev entry_is_fit : Bool
    entry_is_fit = is_some (raised first name)

    abbrev rest_is_fit : Bool
    rest_is_fit = visits_fit t next now (source.id ∷ []) visits third

    abbrev times : List ℕ → ℕ
    times b = copied_name_count t source.id name visits b

    third_is : third ≡ tables_after (source_copied t next now source directory name) t
    third_is =
        ap (tables_after touch) (tables_after-tables_after (node_copied t next now source t) entry t)
        ∙ tables_after-tables_after (node_copied t next now source t ++ entry) touch t

    fits_is : names_fit t next now source directory name visits ≡ ((node_is_fit && entry_is_fit) && rest_is_fit)
    fits_is = ap (λ (u : Tables). (node_is_fit && entry_is_fit) && visits_fit t next now (source.id ∷ []) visits u) (sym third_is)

    sum_is : (b : List ℕ) → times b ≡ used b attrs + (used b (name ∷ []) + used b rest)
    sum_is b = omega (arith, used-append b (attrs ++ name ∷ []) rest, used-append b attrs (name ∷ []))

    node : Counted t first attrs node_is_fit
    node = counted_node t now t next source its_names (have_attrs source.id)

    touched : HasItsNames second → Counted second third [] true
    touched h = Counted-same second third h.params h refl h.made refl (IsOrdered-tables_after touch second h.ordered)

    have_rest : Have t rest
    have_rest = have_visits (source.id ∷ []) [] visits are

    spent_of : (b : List ℕ) → 1 ≤ times b → 2 ^ 62 ≤ uses t b + times b → IsTrue (has_row b) → IsNameSpent t source.id name visits
    spent_of b least over row = record { bytes = b; used = least; spent = by_row (name_of_bytes t b) refl }
      where
        by_row : (found : Option Name) → name_of_bytes t b ≡ found → IsTooOften t name b (times b) found
        by_row None none =
            let clash : false ≡ true = sym (ap is_some none) ∙ row in
            absurd (cc clash)
        by_row (Some n) there = omega (arith, over, ap count_of there)

    -- a name that has a row
    row_fits : (spent : IsNameSpent t source.id name visits) (n : Name) → name_of_bytes t spent.bytes ≡ Some n → uses t spent.bytes + times spent.bytes < 2 ^ 62 → ⊥
    row_fits spent n there less =
        let over : 2 ^ 62 ≤ n.refcount + times spent.bytes = subst (IsTooOften t name spent.bytes (times spent.bytes)) there spent.spent in
        absurd (omega (arith, over, less, ap count_of there))

    -- one that has none is the copy's own
    own_fits : (spent : IsNameSpent t source.id name visits) → name_of_bytes t spent.bytes ≡ None → (spent.bytes ≡ name) × (2 ^ 62 ≤ next_name_of t)
    own_fits spent none = subst (IsTooOften t name spent.bytes (times spent.bytes)) none spent.spent

    -- ---- where the copy's own name has a row

    module _ (n : Name) (found : name_of_bytes t name ≡ Some n) where
      have_name : Have t (name ∷ [])
      have_name = have_all (name ∷ []) (and_from (has_row name) true (ap is_some found) refl)

      own : Counted first second (name ∷ []) entry_is_fit
      own = counted_entry t now next first directory.id next name node.fine (λ b least. node.there b ∙ have_name b least)

      later : Counted second (tables_after (visits_copied t next now (source.id ∷ []) visits third) third) rest rest_is_fit
      later =
          let same : Counted second third [] true = touched own.fine in
          Counted-append second third (tables_after (visits_copied t next now (source.id ∷ []) visits third) third) [] rest true rest_is_fit same
          (counted_visits t now next (source.id ∷ []) visits third same.fine (λ b least. same.there b ∙ own.there b ∙ node.there b ∙ have_rest b least))

      all : Counted t (tables_after (visits_copied t next now (source.id ∷ []) visits third) third) ((attrs ++ name ∷ []) ++ rest) ((node_is_fit && entry_is_fit) && rest_is_fit)
      all =
          Counted-append t second (tables_after (visits_copied t next now (source.id ∷ []) visits third) third) (attrs ++ name ∷ []) rest (node_is_fit && entry_is_fit) rest_is_fit
          (Counted-append t first second attrs (name ∷ []) node_is_fit entry_is_fit node own) later

      over_there : ((node_is_fit && entry_is_fit) && rest_is_fit) ≡ false → IsNameSpent t source.id name visits
      over_there failed =
          let spent : IsSpent t ((attrs ++ name ∷ []) ++ rest) = all.spent failed in
          spent_of spent.bytes spent.least spent.over
          (have_both t (attrs ++ name ∷ []) rest (have_both t attrs (name ∷ []) (have_attrs source.id) have_name) have_rest spent.bytes spent.least)

      fit_there : IsTrue ((node_is_fit && entry_is_fit) && rest_is_fit) → IsNameSpent t source.id name visits → ⊥
      fit_there fits spent = by_row (name_of_bytes t spent.bytes) refl
        where
          by_row : (row : Option Name) → name_of_bytes t spent.bytes ≡ row → ⊥
          by_row None none =
              let clash : None ≡ Some n = sym none ∙ ap (name_of_bytes t) (own_fits spent none).0 ∙ found in
              cc clash
          by_row (Some m) there = row_fits spent m there (all.fit fits spent.bytes spent.used)

    -- ---- where it is new

    module _ (none : name_of_bytes t name ≡ None) where
      absent : (row : Option Name) → is_some row ≡ false → row ≡ None
      absent None is = refl
      absent (Some n) is = absurd (cc is)

      drawn_name : IsDrawn first second name entry_is_fit
      drawn_name =
          IsDrawn-use first node.fine name (λ k. changes.PutContent (record { parent = directory.id; name_id = k; inode = next })) (λ k u. refl) (λ k u. refl)
          (absent (name_of_bytes first name) (node.there name ∙ ap is_some none))

      no_uses : uses t name ≡ 0
      no_uses = ap count_of none

      one_use : used name (name ∷ []) ≡ 1
      one_use = used-one name name true (own_text name name refl)

      visited : IsTrue entry_is_fit → Counted third (tables_after (visits_copied t next now (source.id ∷ []) visits third) third) rest rest_is_fit
      visited fits =
          let same : Counted second third [] true = touched (drawn_name.fine fits) in
          counted_visits t now next (source.id ∷ []) visits third same.fine (λ b least. same.there b ∙ drawn_name.kept fits b (node.there b ∙ have_rest b least))

      uses_third : IsTrue node_is_fit → IsTrue entry_is_fit → (b : List ℕ) → uses third b ≡ uses t b + used b attrs + used b (name ∷ [])
      uses_third one two b =
          let same : Counted second third [] true = touched (drawn_name.fine two) in
          omega (arith, same.more refl b, drawn_name.more two b, node.more one b)

      over_new : (a b c : Bool) → node_is_fit ≡ a → entry_is_fit ≡ b → rest_is_fit ≡ c → ((a && b) && c) ≡ false → IsNameSpent t source.id name visits
      over_new true true true one two three is = absurd (cc is)
      over_new true true false one two three is =
          let spent : IsSpent third rest = (visited two).spent three in
          spent_of spent.bytes (omega (arith, spent.least, sum_is spent.bytes)) (omega (arith, spent.over, sum_is spent.bytes, uses_third one two spent.bytes)) (have_rest spent.bytes spent.least)
      over_new true false c one two three is =
          let left : 2 ^ 62 ≤ next_name_of t = omega (arith, drawn_name.worn two, node.next) in
          record {
            bytes = name;
            used = omega (arith, one_use, sum_is name);
            spent = subst (IsTooOften t name name (times name)) (sym none) (refl, left);
          }
      over_new false b c one two three is =
          let spent : IsSpent t attrs = node.spent one in
          spent_of spent.bytes (omega (arith, spent.least, sum_is spent.bytes)) (omega (arith, spent.over, sum_is spent.bytes)) (have_attrs source.id spent.bytes spent.least)

      fit_new : IsTrue node_is_fit → IsTrue entry_is_fit → IsTrue rest_is_fit → IsNameSpent t source.id name visits → ⊥
      fit_new one two three spent = by_row (name_of_bytes t spent.bytes) refl
        where
          other_name : (m : Name) → name_of_bytes t spent.bytes ≡ Some m → used spent.bytes (name ∷ []) ≡ 0
          other_name m there =
              used-one spent.bytes name false (false_from_ne_true (is_eq (bytes_cmp spent.bytes name)) (λ own.
              let clash : None ≡ Some m = sym none ∙ sym (ap (name_of_bytes t) (one_text spent.bytes name own)) ∙ there in
              cc clash))

          by_row : (row : Option Name) → name_of_bytes t spent.bytes ≡ row → ⊥
          by_row None is = absurd (omega (arith, (own_fits spent is).1, drawn_name.room two, node.next))
          by_row (Some m) there =
              let zero : used spent.bytes (name ∷ []) ≡ 0 = other_name m there in
              row_fits spent m there (elim (cases_lt (used spent.bytes rest) 1) [
                | inl few ↦
                    let some : 1 ≤ used spent.bytes attrs = omega (arith, spent.used, sum_is spent.bytes, zero, few) in
                    omega (arith, node.fit one spent.bytes some, sum_is spent.bytes, zero, few)
                | inr some ↦ omega (arith, (visited two).fit three spent.bytes some, uses_third one two spent.bytes, sum_is spent.bytes)
              ])

    -- ---- either way

    pub names_over : names_fit t next now source directory name visits ≡ false → IsNameSpent t source.id name visits
    names_over failed = by_row (name_of_bytes t name) refl
      where
        by_row : (row : Option Name) → name_of_bytes t name ≡ row → IsNameSpent t source.id name visits
        by_row None none = over_new none node_is_fit entry_is_fit rest_is_fit refl refl refl (sym fits_is ∙ failed)
        by_row (Some n) there = over_there n there (sym fits_is ∙ failed)

    pub names_within : IsTrue (names_fit t next now source directory name visits) → IsNameSpent t source.id name visits → ⊥
    names_within fits = by_row (name_of_bytes t name) refl
      where
        by_row : (row : Option Name) → name_of_bytes t name ≡ row → IsNameSpent t source.id name visits → ⊥
        by_row None none =
            let parts = and_parts (node_is_fit && entry_is_fit) rest_is_fit (sym fits_is ∙ fits) in
            let source_parts = and_parts node_is_fit entry_is_fit parts.0 in
            fit_new none source_parts.0 source_parts.1 parts.1
        by_row (Some n) there = fit_there n there (sym fits_is ∙ fits)
