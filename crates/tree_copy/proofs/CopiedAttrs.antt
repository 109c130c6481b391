-- The attributes of a new node, which come one after the other in the order of their names.
use Rattle.std.proofs.Common.{◌≡◌, ℕ, List, [], ◌∷◌, ◌++◌, map, Bool, true, false, cond, Option, None, Some, refl, sym, ap, ◌∙◌, subst, arith, eq-eqb}
use Rattle.std.proofs.lemmas.Bool.{and_from, and_parts}
use Rattle.std.proofs.lemmas.Cmp.{nat_list_cmp_total}
use Rattle.std.proofs.lemmas.List.{append-nil, append_assoc}
use Rattle.std.specs.BTreeMap.{insert_entry, is_at}
use Rattle.std.specs.Cmp.{nat_cmp_total}
use Rattle.std.specs.Cmp.Lexicographic.{slice_cmp}
use Rattle.std.specs.List.{cons_option, filter_map}
use Rattle.std.specs.Map.{keys_of, lookup, values_of}
use Rattle.std.specs.Ordering.{is_eq, match_ordering, nat_cmp, ordering_reverse}
use Rattle.std.specs.Prelude.{IsTrue, ◌==◌, filter, find, is_some, option_map}
use Rattle.std.specs.declared.cmp.Ordering.{Ordering}
use Rattle.std.specs.declared.cmp.Ordering.TheVariants.{Less, Greater}
use Rattle.plain_tree.specs.Names.{AttributesRise, Rise, RiseFrom}
use Rattle.plain_tree.specs.Pages.{with_attribute}
use Rattle.plain_tree.specs.Tree.{Node, Tree, change_node, node_at, stamped}
use Rattle.s3_rows.specs.declared.change.Change.{Change}
use Rattle.s3_rows.specs.declared.change.Change.TheVariants as changes
use Rattle.s3_rows.specs.declared.lists.NamedAttr.{NamedAttr}
use Rattle.s3_rows.specs.Rows.{Attr, Inode, Name, Parameters}
use Rattle.s3_rows.specs.Keyed.{has_key, put, row_at}
use Rattle.s3_rows.specs.Tables.{Tables, by_attr, by_inode, by_name}
use Rattle.s3_rows.specs.Batches.{tables_after}
use Rattle.s3_rows.specs.Selections.{attr_at, by_attr_name, inode_at, name_at, named_attrs, with_attr_name}
use Rattle.s3_rows.specs.Validity.{any_kind, has_inode}
use Rattle.row_lemmas.proofs.Tests.{find_passes, pair_parts}
use Rattle.row_lemmas.proofs.Keyed.Put.{put_same, row_at-put_same}
use Rattle.row_lemmas.proofs.Keyed.Sorted.{row_at-sorted_by}
use Rattle.row_lemmas.proofs.Tables.{tables_after-tables_after}
use Rattle.tree_laws.proofs.Node.Keys.{own_name}
use Rattle.tree_laws.proofs.Node.Kind.{none_from}
use Rattle.tree_rows.specs.Shapes.{NodeShape, attributes_in, node_of_row, shape_of_node, Represents}
use Rattle.tree_rows.proofs.Shaped.{found_alike, lookup_made}
use Rattle.ref_counts.specs.Names.{Raised, raised}
use Rattle.row_steps.proofs.Owed.Attrs.{Owes-put_attr_new}
use Rattle.row_steps.proofs.Owed.Names.{KeepsBytes-put, any_name}
use Rattle.row_steps.proofs.Owed.Raised.{IsRaise, IsRaise-raised}
use Rattle.row_steps.proofs.Shape.Attributes.{Represents-put_attr}
use Rattle.row_steps.proofs.Shape.Names.{Represents-names}
use Rattle.tree_copy.specs.CopiedRows.{attr_copied, attrs_copied, attrs_fit, with_use}
use Rattle.tree_copy.specs.PartialCopies.{HasMore}
use Rattle.tree_copy.proofs.PartialSteps.{HasMore-change_node}
use Rattle.tree_copy.proofs.Stands.{Stands, leaves_params}

-- ---- names that rise

abbrev compare : List ℕ → List ℕ → Ordering
compare = slice_cmp nat_cmp

-- a later name is above the first
last_above : (low name value : List ℕ) (es rest : List (List ℕ × List ℕ)) → RiseFrom low (keys_of (es ++ (name, value) ∷ rest)) → compare low name ≡ Less
last_above low name value [] rest rise = rise.0
last_above low name value (e ∷ es) rest rise = nat_list_cmp_total.trans low e.0 name rise.0 (last_above e.0 name value es rest rise.1)

turned : (a b : List ℕ) → compare a b ≡ Less → compare b a ≡ Greater
turned a b less = nat_list_cmp_total.antisymm b a ∙ ap ordering_reverse less

rise_behind : (low : List ℕ) (names : List (List ℕ)) → RiseFrom low names → Rise names
rise_behind low [] rise = _
rise_behind low (name ∷ names) rise = rise.1

-- it goes behind all before it, and is none of them
insert_last : (name value : List ℕ) (es rest : List (List ℕ × List ℕ)) → Rise (keys_of (es ++ (name, value) ∷ rest))
    → insert_entry (slice_cmp nat_cmp) es name value ≡ es ++ (name, value) ∷ []
insert_last name value [] rest rise = refl
insert_last name value (e ∷ es) rest rise =
    ap (λ o. match_ordering o ((name, value) ∷ e ∷ es) ((e.0, value) ∷ es) (e ∷ insert_entry (slice_cmp nat_cmp) es name value))
    (turned e.0 name (last_above e.0 name value es rest rise))
    ∙ ap (λ xs. e ∷ xs) (insert_last name value es rest (rise_behind e.0 (keys_of (es ++ (name, value) ∷ rest)) rise))

none_before : (name value : List ℕ) (es rest : List (List ℕ × List ℕ)) → Rise (keys_of (es ++ (name, value) ∷ rest))
    → lookup (is_at (slice_cmp nat_cmp name)) es ≡ None
none_before name value [] rest rise = refl
none_before name value (e ∷ es) rest rise =
    ap (λ b. cond b (Some e.1) (lookup (is_at (slice_cmp nat_cmp name)) es)) (ap is_eq (turned e.0 name (last_above e.0 name value es rest rise)))
    ∙ none_before name value es rest (rise_behind e.0 (keys_of (es ++ (name, value) ∷ rest)) rise)

-- the attributes of a node in a list
pub attributes_found : (test : ℕ → Bool) (es : List (ℕ × Node)) (node : Node) → AttributesRise (values_of es) → lookup test es ≡ Some node → Rise (keys_of node.attributes)
attributes_found test [] node rise is = absurd (cc is)
attributes_found test (e ∷ es) node rise is = by_case (attributes_found test es node rise.1) (test e.0) is
  where
    by_case : (lookup test es ≡ Some node → Rise (keys_of node.attributes)) → (b : Bool) → cond b (Some e.1) (lookup test es) ≡ Some node → Rise (keys_of node.attributes)
    by_case rest true found =
        let same : e.1 ≡ node = cc found in
        subst (λ (x : Node). Rise (keys_of x.attributes)) same rise.0
    by_case rest false found = rest found

-- a row that is found is listed
listed_some : (f : Attr → Option NamedAttr) (q test : Attr → Bool) (name : List ℕ) (rows : List Attr) (b : Attr) (y : NamedAttr) → find test rows ≡ Some b → q b ≡ true
    → f b ≡ Some y → IsTrue (has_key by_attr_name name y) → IsTrue (is_some (row_at by_attr_name name (filter_map f (filter q rows))))
listed_some f q test name [] b y is own makes key = absurd (cc is)
listed_some f q test name (r ∷ rs) b y is own makes key =
    by_case (λ found. listed_some f q test name rs b y found own makes key) (test r) is
  where
    some_if : (d : Bool) (x : NamedAttr) (found : Option NamedAttr) → IsTrue (is_some found) → IsTrue (is_some (cond d (Some x) found))
    some_if true x found rest = refl
    some_if false x found rest = rest

    listed : (made : Option NamedAttr) → IsTrue (is_some (row_at by_attr_name name (filter_map f (filter q rs))))
        → IsTrue (is_some (row_at by_attr_name name (cons_option made (filter_map f (filter q rs)))))
    listed None rest = rest
    listed (Some x) rest = some_if (has_key by_attr_name name x) x (row_at by_attr_name name (filter_map f (filter q rs))) rest

    kept : (d : Bool) → IsTrue (is_some (row_at by_attr_name name (filter_map f (filter q rs))))
        → IsTrue (is_some (row_at by_attr_name name (filter_map f (cond d (r ∷ filter q rs) (filter q rs)))))
    kept true rest = listed (f r) rest
    kept false rest = rest

    first : r ≡ b → IsTrue (is_some (row_at by_attr_name name (filter_map f (cond (q r) (r ∷ filter q rs) (filter q rs)))))
    first same =
        ap (λ d. is_some (row_at by_attr_name name (filter_map f (cond d (r ∷ filter q rs) (filter q rs))))) (ap q same ∙ own)
        ∙ ap (λ made. is_some (row_at by_attr_name name (cons_option made (filter_map f (filter q rs))))) (ap f same ∙ makes)
        ∙ ap (λ d. is_some (cond d (Some y) (row_at by_attr_name name (filter_map f (filter q rs))))) key

    by_case : (find test rs ≡ Some b → IsTrue (is_some (row_at by_attr_name name (filter_map f (filter q rs))))) → (d : Bool) → cond d (Some r) (find test rs) ≡ Some b
        → IsTrue (is_some (row_at by_attr_name name (filter_map f (cond (q r) (r ∷ filter q rs) (filter q rs)))))
    by_case rest true found =
        let same : r ≡ b = cc found in
        first same
    by_case rest false found = kept (q r) (rest found)

no_some : (row : Option NamedAttr) → IsTrue (is_some row) → option_map (λ (e : NamedAttr). e.row.value) row ≡ None → ⊥
no_some None some none = absurd (cc some)
no_some (Some x) some none = absurd (cc none)

-- ---- of a new node

-- the pairs of names and values
abbrev pub pairs : List NamedAttr → List (List ℕ × List ℕ)
pairs attrs = map (λ a. (a.name, a.row.value)) attrs

module _ (told : Tables) (t : Tree) (rows : List Inode) (r : Inode) (base : Node) (now : ℕ) (own : r.id ≡ t.next_inode) where
  abbrev pub stamped_now : Inode
  stamped_now = record r { ctime = now }

  abbrev pub node_with : List (List ℕ × List ℕ) → Node
  node_with attributes = record base { ctime = now; attributes = attributes }

  -- the new node has these attributes so far
  pub record IsAttributed (u : Tables) (xs : List (List ℕ × List ℕ)) : Type 0 where
    pub tree : Tree
    pub stands : Stands told u tree (r.id ∷ [])
    pub more : HasMore t tree (node_with xs)
    pub found : inode_at u r.id ≡ Some stamped_now
    pub inodes : u.inodes ≡ rows

  module _ (u : Tables) (xs : List (List ℕ × List ℕ)) (is : IsAttributed u xs) (a : NamedAttr) (more : Raised) (used : raised u a.name ≡ Some more)
      (free : lookup (is_at (slice_cmp nat_cmp a.name)) xs ≡ None) where
    abbrev p : Parameters
    p = is.stands.p

    raise : IsRaise u is.stands.p (r.id ∷ []) [] more a.name
    raise = IsRaise-raised u is.stands.p (r.id ∷ []) [] more a.name is.stands.owes refl used

    abbrev with_name : Tables
    with_name = record u { params = Some (record is.stands.p { next_name = raise.next }); names = put by_name raise.row u.names }

    abbrev new : Attr
    new = record { inode = r.id; name_id = raise.row.id; value = a.row.value }

    abbrev after : Tables
    after = record with_name { attrs = put by_attr new u.attrs }

    last : ℕ → List Change
    last id = changes.PutAttr (record { inode = r.id; name_id = id; value = a.row.value }) ∷ []

    after_is : tables_after (attr_copied r.id a u) u ≡ after
    unfolding last
    after_is =
        ap (λ (m : Option Raised). tables_after (with_use m (λ name_id. changes.PutAttr (record { inode = r.id; name_id = name_id; value = a.row.value }) ∷ [])) u) used
        ∙ sym (tables_after-tables_after more.changes (last more.id) u) ∙ ap (tables_after (last more.id)) raise.after
        ∙ ap (λ id. tables_after (last id) with_name) (sym raise.id)

    row_there : name_at with_name raise.row.id ≡ Some raise.row
    row_there = row_at-put_same by_name nat_cmp_total raise.row u.names

    Represents-named : Represents with_name is.tree
    Represents-named =
        let named_only : Tables = record u { names = put by_name raise.row u.names } in
        subst (λ (q : Option Parameters). Represents (record named_only { params = q }) is.tree) is.stands.owes.made
        (Represents-names u (put by_name raise.row u.names) (λ x. true) (any_name u) (KeepsBytes-put u raise.row raise.kept) is.stands.owes.rows.entries is.stands.owes.rows.attrs
        is.tree is.stands.same)

    -- the attributes so far
    listed : attributes_in with_name r.id ≡ xs
    listed =
        let both : Some (shape_of_node (node_with xs)) ≡ Some (node_of_row with_name stamped_now) =
        ap (option_map shape_of_node) (sym (ap (node_at is.tree) own ∙ is.more.there)) ∙ found_alike with_name is.tree Represents-named r.id
        ∙ ap (option_map (node_of_row with_name)) is.found in
        let shape : shape_of_node (node_with xs) ≡ node_of_row with_name stamped_now = cc both in
        sym (ap (λ (x : NodeShape). x.attributes) shape)

    -- none has the name
    absent : attr_at u r.id raise.row.id ≡ None
    absent = none_from (attr_at u r.id raise.row.id) (λ b found. clash b found)
      where
        clash : (b : Attr) → attr_at u r.id raise.row.id ≡ Some b → ⊥
        clash b found =
            let parts = pair_parts (r.id, raise.row.id) (b.inode, b.name_id) (find_passes (has_key by_attr (r.id, raise.row.id)) u.attrs b found) in
            let y : NamedAttr = record { row = b; name = raise.row.name } in
            let makes : with_attr_name with_name b ≡ Some y =
            ap (option_map (λ (n : Name). let e : NamedAttr = record { row = b; name = n.name } in e)) (ap (name_at with_name) (sym parts.1) ∙ row_there) in
            let some : IsTrue (is_some (row_at by_attr_name a.name (filter_map (with_attr_name with_name) (filter (λ (x : Attr). x.inode == r.id) u.attrs)))) =
            listed_some (with_attr_name with_name) (λ x. x.inode == r.id) (has_key by_attr (r.id, raise.row.id)) a.name u.attrs b y found (eq-eqb b.inode r.id (sym parts.0)) makes
            (ap (λ m. is_at (slice_cmp nat_cmp a.name) m) raise.bytes ∙ own_name a.name) in
            let none : option_map (λ (e : NamedAttr). e.row.value) (row_at by_attr_name a.name (filter_map (with_attr_name with_name) (filter (λ (x : Attr). x.inode == r.id) u.attrs))) ≡ None =
            ap (option_map (λ (e : NamedAttr). e.row.value)) (sym (row_at-sorted_by by_attr_name nat_list_cmp_total a.name (filter_map (with_attr_name with_name) (filter (λ (x : Attr). x.inode == r.id) u.attrs))))
            ∙ sym (lookup_made (λ (e : NamedAttr). e.name) (λ (e : NamedAttr). e.row.value) (is_at (slice_cmp nat_cmp a.name)) (named_attrs with_name r.id))
            ∙ ap (lookup (is_at (slice_cmp nat_cmp a.name))) listed ∙ free in
            no_some (row_at by_attr_name a.name (filter_map (with_attr_name with_name) (filter (λ (x : Attr). x.inode == r.id) u.attrs))) some none

    abbrev f : Node → Node
    f = λ node. stamped now (with_attribute a.name a.row.value node)

    Stands-attr : Stands told after (change_node r.id f is.tree) (r.id ∷ [])
    Stands-attr = record {
      p = record is.stands.p { next_name = raise.next };
      owes =
          Owes-put_attr_new with_name (record is.stands.p { next_name = raise.next }) new (r.id ∷ []) [] raise.owes absent
          (and_from (has_inode any_kind with_name r.id) (is_some (name_at with_name raise.row.id))
          (ap (λ (found : Option Inode). elim found [ Some x ↦ true | None ↦ false ]) is.found) (ap is_some row_there));
      children = is.stands.children;
      same =
          subst (λ (rows : List Inode). Represents (record after { inodes = rows }) (change_node r.id f is.tree))
          (put_same by_inode nat_cmp_total stamped_now u.inodes is.stands.owes.ordered.inodes is.found)
          (subst (λ (text : List ℕ). Represents (record after { inodes = put by_inode stamped_now u.inodes }) (change_node r.id (λ node. stamped now (with_attribute text a.row.value node)) is.tree))
          raise.bytes
          (Represents-put_attr with_name (raise.unique is.stands.unique) new raise.row row_there is.stands.owes.ordered.attrs is.stands.owes.ordered.inodes is.tree Represents-named
          stamped_now now refl is.found));
      unique = raise.unique is.stands.unique;
      rest = leaves_params told u after is.stands.p (record is.stands.p { next_name = raise.next }) is.stands.rest is.stands.owes.made refl refl (omega arith) raise.least refl refl refl refl;
    }

    one_more : IsAttributed (tables_after (attr_copied r.id a u) u) (insert_entry (slice_cmp nat_cmp) xs a.name a.row.value)
    one_more =
        subst (λ (w : Tables). IsAttributed w (insert_entry (slice_cmp nat_cmp) xs a.name a.row.value)) (sym after_is)
        (record {
          tree = change_node r.id f is.tree;
          stands = Stands-attr;
          more = HasMore-change_node t is.tree (node_with xs) f (λ node rise. rise) r.id own is.more;
          found = is.found;
          inodes = is.inodes;
        })

  used_in : (found : Option Raised) → IsTrue (is_some found) → (more : Raised) × (found ≡ Some more)
  used_in None some = absurd (cc some)
  used_in (Some more) some = (more, refl)

  pub all_attributes : (attrs : List NamedAttr) (u : Tables) (xs : List (List ℕ × List ℕ)) → IsAttributed u xs → Rise (keys_of (xs ++ pairs attrs))
      → IsTrue (attrs_fit r.id attrs u) → IsAttributed (tables_after (attrs_copied r.id attrs u) u) (xs ++ pairs attrs)
  all_attributes [] u xs is rise fits = subst (IsAttributed u) (sym (append-nil xs)) is
  all_attributes (a ∷ attrs) u xs is rise fits =
      let next : Tables = tables_after (attr_copied r.id a u) u in
      let parts = and_parts (is_some (raised u a.name)) (attrs_fit r.id attrs next) fits in
      let more = used_in (raised u a.name) parts.0 in
      let longer : List (List ℕ × List ℕ) = xs ++ (a.name, a.row.value) ∷ [] in
      let whole : longer ++ pairs attrs ≡ xs ++ pairs (a ∷ attrs) = append_assoc xs ((a.name, a.row.value) ∷ []) (pairs attrs) in
      let step : IsAttributed next longer =
      subst (IsAttributed next) (insert_last a.name a.row.value xs (pairs attrs) rise)
      (one_more u xs is a more.0 more.1 (none_before a.name a.row.value xs (pairs attrs) rise)) in
      let rest : IsAttributed (tables_after (attrs_copied r.id attrs next) next) (longer ++ pairs attrs) =
      all_attributes attrs next longer step (subst (λ ys. Rise (keys_of ys)) (sym whole) rise) parts.1 in
      subst (λ (w : Tables). IsAttributed w (xs ++ pairs (a ∷ attrs))) (tables_after-tables_after (attr_copied r.id a u) (attrs_copied r.id attrs next) u)
      (subst (IsAttributed (tables_after (attrs_copied r.id attrs next) next)) whole rest)
