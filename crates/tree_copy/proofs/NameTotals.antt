-- How often names are used after the visits of a copy, and whether all those uses fit.
use Rattle.std.proofs.Common.{◌≡◌, ◌≤◌, ◌<◌, ℕ, ◌+◌, ◌^◌, List, [], ◌∷◌, ◌++◌, map, Bool, true, false, cond, Option, None, Some, inl, inr, refl, ap, ◌∙◌, subst, arith}
use Rattle.std.proofs.lemmas.Bool.{and_parts, cases_lt}
use Rattle.std.specs.Prelude.{IsTrue, ◌&&◌, is_some}
use Rattle.plain_tree.specs.Below.{is_among}
use Rattle.plain_tree.specs.Subtrees.{copy_number}
use Rattle.s3_rows.specs.declared.change.Change.{Change}
use Rattle.s3_rows.specs.declared.change.Change.TheVariants as changes
use Rattle.s3_rows.specs.declared.lists.NamedAttr.{NamedAttr}
use Rattle.s3_rows.specs.Batches.{after_change, tables_after}
use Rattle.s3_rows.specs.Rows.{Inode, Name, Parameters, Target}
use Rattle.s3_rows.specs.Selections.{inode_at, name_of_bytes, named_attrs, target_at}
use Rattle.s3_rows.specs.Tables.{Tables}
use Rattle.row_lemmas.proofs.Tables.{IsOrdered-tables_after, tables_after-tables_after}
use Rattle.ref_counts.specs.Names.{raised}
use Rattle.row_steps.specs.RowChanges.{drawn}
use Rattle.tree_copy.specs.CopiedRows.{Visit, attr_copied, attrs_copied, attrs_fit, child_copied, child_fits, copied_row, drawing, entry_copied, link_counted, node_copied, node_fits, row_copied, seen_after, target_copied, visit_copied, visit_fits, visits_copied, visits_fit, with_use}
use Rattle.tree_copy.specs.NameCounts.{attr_names, visit_names, visits_names}
use Rattle.tree_copy.proofs.NameUses.{Counted, Counted-same, Counted-use, HasItsNames, IsSpent, own_text, used, used-append, used-one, uses}

-- ---- names that have rows

abbrev pub Have : Tables → List (List ℕ) → Type 0
Have w names = (b : List ℕ) → 1 ≤ used b names → IsTrue (is_some (name_of_bytes w b))

module _ (w : Tables) (more names : List (List ℕ)) where
  pub have_more : Have w (more ++ names) → Have w more
  have_more have b least = have b (omega (arith, used-append b more names, least))

  pub have_rest : Have w (more ++ names) → Have w names
  have_rest have b least = have b (omega (arith, used-append b more names, least))

  pub have_both : Have w more → Have w names → Have w (more ++ names)
  have_both first second b least =
      elim (cases_lt (used b more) 1) [
        | inl none ↦ second b (omega (arith, used-append b more names, least, none))
        | inr some ↦ first b some
      ]

-- ---- one list of names after another

module _ (w v u : Tables) (more names : List (List ℕ)) where
  have_after : (fits : Bool) → Counted w v more fits → Have w names → Have v names
  have_after fits counted have b least = counted.there b ∙ have b least

  spent_first : IsSpent w more → IsSpent w (more ++ names)
  spent_first spent = record {
    bytes = spent.bytes;
    least = omega (arith, spent.least, used-append spent.bytes more names);
    over = omega (arith, spent.over, used-append spent.bytes more names);
  }

  spent_later : ((b : List ℕ) → uses v b ≡ uses w b + used b more) → IsSpent v names → IsSpent w (more ++ names)
  spent_later raised spent = record {
    bytes = spent.bytes;
    least = omega (arith, spent.least, used-append spent.bytes more names);
    over = omega (arith, spent.over, raised spent.bytes, used-append spent.bytes more names);
  }

  spent_either : (a b : Bool) → Counted w v more a → Counted v u names b → (a && b) ≡ false → IsSpent w (more ++ names)
  spent_either true b first second is = spent_later (first.more refl) (second.spent is)
  spent_either false b first second is = spent_first (first.spent refl)

  pub Counted-append : (a b : Bool) → Counted w v more a → Counted v u names b → Counted w u (more ++ names) (a && b)
  Counted-append a b first second = record {
    fine = second.fine;
    next = second.next ∙ first.next;
    there = λ x. second.there x ∙ first.there x;
    more = λ both x. omega (arith, second.more (and_parts a b both).1 x, first.more (and_parts a b both).0 x, used-append x more names);
    fit = fit;
    spent = spent_either a b first second;
  }
    where
      fit : IsTrue (a && b) → (x : List ℕ) → 1 ≤ used x (more ++ names) → uses w x + used x (more ++ names) < 2 ^ 62
      fit both x least =
          let parts = and_parts a b both in
          let sum : used x (more ++ names) ≡ used x more + used x names = used-append x more names in
          elim (cases_lt (used x names) 1) [
            | inl none ↦
                let some : 1 ≤ used x more = omega (arith, least, sum, none) in
                omega (arith, first.fit parts.0 x some, sum, none)
            | inr some ↦ omega (arith, second.fit parts.1 x some, first.more parts.0 x, sum)
          ]

-- ---- a name, and the attributes of a node

some_row : (found : Option Name) → IsTrue (is_some found) → (n : Name) × (found ≡ Some n)
some_row None is = absurd (cc is)
some_row (Some n) is = (n, refl)

Counted-one : (w : Tables) → HasItsNames w → (name : List ℕ) (row : ℕ → Change) → ((k : ℕ) (u : Tables) → (after_change (row k) u).names ≡ u.names)
    → ((k : ℕ) (u : Tables) → (after_change (row k) u).params ≡ u.params) → Have w (name ∷ [])
    → Counted w (tables_after (with_use (raised w name) (λ k. row k ∷ [])) w) (name ∷ []) (is_some (raised w name))
Counted-one w h name row names params have =
    let row_of_name = some_row (name_of_bytes w name) (have name (omega (arith, used-one name name true (own_text name name refl)))) in
    Counted-use w h name row names params row_of_name.0 row_of_name.1

abbrev texts : List NamedAttr → List (List ℕ)
texts attrs = map (λ a. a.name) attrs

counted_attrs : (id : ℕ) (attrs : List NamedAttr) (w : Tables) → HasItsNames w → Have w (texts attrs)
    → Counted w (tables_after (attrs_copied id attrs w) w) (texts attrs) (attrs_fit id attrs w)
counted_attrs id [] w h have = Counted-same w w h.params h refl h.made refl h.ordered
counted_attrs id (a ∷ attrs) w h have =
    let v : Tables = tables_after (attr_copied id a w) w in
    let first : Counted w v (a.name ∷ []) (is_some (raised w a.name)) =
    Counted-one w h a.name (λ k. changes.PutAttr (record { inode = id; name_id = k; value = a.row.value })) (λ k u. refl) (λ k u. refl) (have_more w (a.name ∷ []) (texts attrs) have) in
    let second : Counted v (tables_after (attrs_copied id attrs v) v) (texts attrs) (attrs_fit id attrs v) =
    counted_attrs id attrs v first.fine (have_after w v v (a.name ∷ []) (texts attrs) (is_some (raised w a.name)) first (have_rest w (a.name ∷ []) (texts attrs) have)) in
    subst (λ (u : Tables). Counted w u (texts (a ∷ attrs)) (attrs_fit id (a ∷ attrs) w)) (tables_after-tables_after (attr_copied id a w) (attrs_copied id attrs v) w)
    (Counted-append w v (tables_after (attrs_copied id attrs v) v) (a.name ∷ []) (texts attrs) (is_some (raised w a.name)) (attrs_fit id attrs v) first second)

-- ---- a node

abbrev row_changes : ℕ → Option Parameters → Option Target → Inode → List Change
row_changes id p x r = drawing p ++ target_copied id x ++ changes.PutInode r ∷ []

names_row : (id : ℕ) (p : Option Parameters) (x : Option Target) (r : Inode) (w : Tables) → (tables_after (row_changes id p x r) w).names ≡ w.names
names_row id None None r w = refl
names_row id None (Some x) r w = refl
names_row id (Some p) None r w = refl
names_row id (Some p) (Some x) r w = refl

params_row : (id : ℕ) (p : Parameters) (x : Option Target) (r : Inode) (w : Tables) → (tables_after (row_changes id (Some p) x r) w).params ≡ Some (drawn p)
params_row id p None r w = refl
params_row id p (Some x) r w = refl

module _ (told : Tables) (now : ℕ) where
  counted_row : (w : Tables) (id : ℕ) (r : Inode) → HasItsNames w → Counted w (tables_after (row_copied told id now r w) w) [] true
  counted_row w id r h =
      let x : Option Target = target_at told r.id in
      let own : Inode = copied_row id now r in
      Counted-same w (tables_after (row_copied told id now r w) w) (drawn h.params) h (names_row id w.params x own w)
      (ap (λ (q : Option Parameters). (tables_after (row_changes id q x own) w).params) h.made ∙ params_row id h.params x own w) refl
      (IsOrdered-tables_after (row_copied told id now r w) w h.ordered)

  pub counted_node : (w : Tables) (id : ℕ) (r : Inode) → HasItsNames w → Have w (attr_names told r.id)
      → Counted w (tables_after (node_copied told id now r w) w) (attr_names told r.id) (node_fits told id now r w)
  counted_node w id r h have =
      let v : Tables = tables_after (row_copied told id now r w) w in
      let attrs : List NamedAttr = named_attrs told r.id in
      let first : Counted w v [] true = counted_row w id r h in
      let second : Counted v (tables_after (attrs_copied id attrs v) v) (texts attrs) (attrs_fit id attrs v) =
      counted_attrs id attrs v first.fine (have_after w v v [] (texts attrs) true first have) in
      subst (λ (u : Tables). Counted w u (texts attrs) (attrs_fit id attrs v)) (tables_after-tables_after (row_copied told id now r w) (attrs_copied id attrs v) w)
      (Counted-append w v (tables_after (attrs_copied id attrs v) v) [] (texts attrs) true (attrs_fit id attrs v) first second)

  counted_link : (w : Tables) → HasItsNames w → (found : Option Inode) → Counted w (tables_after (link_counted found) w) [] true
  counted_link w h None = Counted-same w w h.params h refl h.made refl h.ordered
  counted_link w h (Some r) =
      Counted-same w (tables_after (link_counted (Some r)) w) h.params h refl h.made refl (IsOrdered-tables_after (link_counted (Some r)) w h.ordered)

  counted_child : (again : Bool) (w : Tables) (id : ℕ) (r : Inode) → HasItsNames w → Have w (cond again [] (attr_names told r.id))
      → Counted w (tables_after (child_copied again told id now r w) w) (cond again [] (attr_names told r.id)) (child_fits again told id now r w)
  counted_child true w id r h have = counted_link w h (inode_at w id)
  counted_child false w id r h have = counted_node w id r h have

  -- ---- visits

  module _ (next : ℕ) where
    counted_visit : (seen : List ℕ) (v : Visit) (w : Tables) → HasItsNames w → Have w (visit_names told seen v)
        → Counted w (tables_after (visit_copied told next now seen v w) w) (visit_names told seen v) (visit_fits told next now seen v w)
    counted_visit seen v w h have =
        let again : Bool = is_among seen v.child.id in
        let id : ℕ = copy_number next seen v.child.id in
        let directory : ℕ = copy_number next seen v.directory in
        let child : List Change = child_copied again told id now v.child w in
        let names : List (List ℕ) = cond again [] (attr_names told v.child.id) in
        let u : Tables = tables_after child w in
        let first : Counted w u names (child_fits again told id now v.child w) = counted_child again w id v.child h (have_more w names (v.entry.name ∷ []) have) in
        let second : Counted u (tables_after (entry_copied directory v.entry.name id u) u) (v.entry.name ∷ []) (is_some (raised u v.entry.name)) =
        Counted-one u first.fine v.entry.name (λ k. changes.PutContent (record { parent = directory; name_id = k; inode = id })) (λ k x. refl) (λ k x. refl)
        (have_after w u u names (v.entry.name ∷ []) (child_fits again told id now v.child w) first (have_rest w names (v.entry.name ∷ []) have)) in
        subst (λ (x : Tables). Counted w x (visit_names told seen v) (visit_fits told next now seen v w)) (tables_after-tables_after child (entry_copied directory v.entry.name id u) w)
        (Counted-append w u (tables_after (entry_copied directory v.entry.name id u) u) names (v.entry.name ∷ []) (child_fits again told id now v.child w) (is_some (raised u v.entry.name)) first second)

    pub counted_visits : (seen : List ℕ) (visits : List Visit) (w : Tables) → HasItsNames w → Have w (visits_names told seen visits)
        → Counted w (tables_after (visits_copied told next now seen visits w) w) (visits_names told seen visits) (visits_fit told next now seen visits w)
    counted_visits seen [] w h have = Counted-same w w h.params h refl h.made refl h.ordered
    counted_visits seen (v ∷ visits) w h have =
        let one : List Change = visit_copied told next now seen v w in
        let u : Tables = tables_after one w in
        let here : List (List ℕ) = visit_names told seen v in
        let others : List (List ℕ) = visits_names told (seen_after seen v) visits in
        let rest : List Change = visits_copied told next now (seen_after seen v) visits u in
        let fits : Bool = visit_fits told next now seen v w in
        let later : Bool = visits_fit told next now (seen_after seen v) visits u in
        let first : Counted w u here fits = counted_visit seen v w h (have_more w here others have) in
        let second : Counted u (tables_after rest u) others later =
        counted_visits (seen_after seen v) visits u first.fine (have_after w u u here others fits first (have_rest w here others have)) in
        subst (λ (x : Tables). Counted w x (visits_names told seen (v ∷ visits)) (visits_fit told next now seen (v ∷ visits) w)) (tables_after-tables_after one rest w)
        (Counted-append w u (tables_after rest u) here others fits later first second)

    pub counted_entry : (w : Tables) (directory id : ℕ) (name : List ℕ) → HasItsNames w → Have w (name ∷ [])
        → Counted w (tables_after (entry_copied directory name id w) w) (name ∷ []) (is_some (raised w name))
    counted_entry w directory id name h have =
        Counted-one w h name (λ k. changes.PutContent (record { parent = directory; name_id = k; inode = id })) (λ k x. refl) (λ k x. refl) have
