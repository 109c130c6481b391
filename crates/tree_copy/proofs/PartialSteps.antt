-- What a tree on the way of a copy is after one node more, and after one entry more.
use Rattle.std.proofs.Common.{◌≡◌, ◌≢◌, ◌<◌, ◌+◌, inl, inr, ℕ, List, [], ◌∷◌, ◌++◌, length, Bool, true, false, cond, Option, None, Some, refl, sym, ap, ◌∙◌, subst, arith, eq-eqb, eqb-true}
use Rattle.std.proofs.lemmas.Bool.{and_parts, both_ways, cases_eq, or_cases}
use Rattle.std.proofs.lemmas.List.{length-append}
use Rattle.std.specs.BTreeMap.{insert_entry, is_at}
use Rattle.std.specs.Cmp.Lexicographic.{slice_cmp}
use Rattle.std.specs.Map.{keys_of, values_of}
use Rattle.std.specs.Ordering.{is_eq, nat_cmp}
use Rattle.std.specs.Prelude.{◌==◌, ◌&&◌, ◌||◌, option_map}
use Rattle.plain_tree.specs.Below.{is_among}
use Rattle.plain_tree.specs.Entries.{add_entry, entries_of, entry_at}
use Rattle.plain_tree.specs.Names.{NamesInOrder, NamesRise, Rise}
use Rattle.plain_tree.specs.Numbers.{InOrder}
use Rattle.plain_tree.specs.Subtrees.{copy_number}
use Rattle.plain_tree.specs.Tree.{Content, Regular, Directory, Link, Node, Tree, change_node, changed_by, entry_of, named, node_at, touched, with_node}
use Rattle.tree_laws.proofs.Copy.Nodes.{place_of-one, place_within}
use Rattle.tree_laws.proofs.Name.Order.{NamesInOrder-add_entry}
use Rattle.tree_laws.proofs.Name.Rise.{Rise-insert_entry}
use Rattle.tree_laws.proofs.Node.Each.{Each, each-change_node, each-insert_entry}
use Rattle.tree_laws.proofs.Node.Keys.{cases_name, lookup-insert_entry_other, lookup-insert_entry_same, names_tell, other_name, own_name}
use Rattle.tree_laws.proofs.Node.Kind.{entry_in}
use Rattle.tree_laws.proofs.Node.Order.{InOrder-change_node, InOrder-with_node}
use Rattle.tree_laws.proofs.Node.Reading.{node_at-change_node_other, node_at-change_node_same, node_at-with_node_other, node_at-with_node_same}
use Rattle.tree_copy.specs.PartialCopies.{HasCopy, HasMore, IsContentOf, IsPartial, also_entry, begun, entered, without_entries}
use Rattle.tree_copy.proofs.SameEntries.{among_first, among_last, place_last, place_stays}

-- ---- one node changed

pub record KeepsNumbers (t after : Tree) : Type 0 where
  pub handles : after.handles ≡ t.handles
  pub next_inode : after.next_inode ≡ t.next_inode
  pub next_handle : after.next_handle ≡ t.next_handle
  pub block_size : after.block_size ≡ t.block_size

pub KeepsNumbers-change_node : (f : Node → Node) (i : ℕ) (t : Tree) → KeepsNumbers t (change_node i f t)
KeepsNumbers-change_node f i t = by_node (node_at t i)
  where
    by_node : (found : Option Node) → KeepsNumbers t (changed_by f found i t)
    by_node None = record { handles = refl; next_inode = refl; next_handle = refl; block_size = refl }
    by_node (Some node) = record { handles = refl; next_inode = refl; next_handle = refl; block_size = refl }

abbrev HasNamesInOrder : Node → Type 0
HasNamesInOrder node = Rise (keys_of (entries_of node.content))

each_from_rise : (es : List (ℕ × Node)) → NamesRise (values_of es) → Each HasNamesInOrder es
each_from_rise [] rise = _
each_from_rise (e ∷ es) rise = (rise.0, each_from_rise es rise.1)

rise_from_each : (es : List (ℕ × Node)) → Each HasNamesInOrder es → NamesRise (values_of es)
rise_from_each [] each = _
rise_from_each (e ∷ es) each = (each.0, rise_from_each es each.1)

pub NamesInOrder-change_node : (f : Node → Node) → ((node : Node) → Rise (keys_of (entries_of node.content)) → Rise (keys_of (entries_of (f node).content)))
    → (i : ℕ) (t : Tree) → NamesInOrder t → NamesInOrder (change_node i f t)
NamesInOrder-change_node f keeps i t rise =
    rise_from_each (change_node i f t).nodes (each-change_node HasNamesInOrder f keeps i t (each_from_rise t.nodes rise))

-- ---- one node more

pub HasMore-with_node : (t : Tree) (node : Node) → InOrder t → NamesInOrder t → Rise (keys_of (entries_of node.content)) → HasMore t (with_node node t) node
HasMore-with_node t node ordered names rise = record {
  next_inode = refl;
  handles = refl;
  next_handle = refl;
  block_size = refl;
  ordered = InOrder-with_node node t ordered;
  names =
      rise_from_each (with_node node t).nodes
      (each-insert_entry (λ inode node. HasNamesInOrder node) nat_cmp t.next_inode node rise (λ l w own. rise) t.nodes (each_from_rise t.nodes names));
  there = node_at-with_node_same node t;
  others = λ y apart. node_at-with_node_other node t y apart;
}

-- the new node changes, and keeps its names in order
pub HasMore-change_node : (t after : Tree) (node : Node) (f : Node → Node)
    → ((x : Node) → Rise (keys_of (entries_of x.content)) → Rise (keys_of (entries_of (f x).content)))
    → (i : ℕ) → i ≡ t.next_inode → HasMore t after node → HasMore t (change_node i f after) (f node)
HasMore-change_node t after node f keeps i is more =
    let kept : KeepsNumbers after (change_node i f after) = KeepsNumbers-change_node f i after in
    record {
      next_inode = kept.next_inode ∙ more.next_inode;
      handles = kept.handles ∙ more.handles;
      next_handle = kept.next_handle ∙ more.next_handle;
      block_size = kept.block_size ∙ more.block_size;
      ordered = InOrder-change_node f i after more.ordered;
      names = NamesInOrder-change_node f keeps i after more.names;
      there =
          subst (λ k. node_at (change_node i f after) k ≡ Some (f node)) is
          (node_at-change_node_same f i after ∙ ap (option_map f) (ap (node_at after) is ∙ more.there));
      others = λ y apart. node_at-change_node_other f i y after (λ same. apart (same ∙ is)) ∙ more.others y apart;
    }

-- ---- one entry more of a content

pub rise_begun : (old : Content) → Rise (keys_of (entries_of (without_entries old)))
rise_begun (Directory entries) = _
rise_begun (Regular bytes) = _
rise_begun (Link target) = _

rise-named : (name : List ℕ) (inode : ℕ) (content : Content) → Rise (keys_of (entries_of content)) → Rise (keys_of (entries_of (named name inode content)))
rise-named name inode (Directory entries) rise = Rise-insert_entry entries name inode rise
rise-named name inode (Regular bytes) rise = rise
rise-named name inode (Link target) rise = rise

content_named : (name : List ℕ) (inode : ℕ) (old content : Content) → IsContentOf old content → IsContentOf old (named name inode content)
content_named name inode (Directory entries) content is = (insert_entry (slice_cmp nat_cmp) is.0 name inode, ap (named name inode) is.1)
content_named name inode (Regular bytes) content is = ap (named name inode) is
content_named name inode (Link target) content is = ap (named name inode) is

entry_named_same : (name : List ℕ) (inode : ℕ) (old content : Content) (y : ℕ) → IsContentOf old content → entry_of old name ≡ Some y
    → entry_of (named name inode content) name ≡ Some inode
entry_named_same name inode (Directory entries) content y is there =
    ap (λ c. entry_of (named name inode c) name) is.1 ∙ lookup-insert_entry_same (slice_cmp nat_cmp) names_tell name inode is.0
entry_named_same name inode (Regular bytes) content y is there = absurd (cc there)
entry_named_same name inode (Link target) content y is there = absurd (cc there)

entry_named_other : (name other : List ℕ) (inode : ℕ) (content : Content) → other ≢ name
    → entry_of (named name inode content) other ≡ entry_of content other
entry_named_other name other inode (Directory entries) apart = lookup-insert_entry_other (slice_cmp nat_cmp) names_tell name other inode entries apart
entry_named_other name other inode (Regular bytes) apart = refl
entry_named_other name other inode (Link target) apart = refl

content_begun : (old : Content) → IsContentOf old (without_entries old)
content_begun (Directory entries) = ([], refl)
content_begun (Regular bytes) = refl
content_begun (Link target) = refl

none_begun : (old : Content) (name : List ℕ) → entry_of (without_entries old) name ≡ None
none_begun (Directory entries) name = refl
none_begun (Regular bytes) name = refl
none_begun (Link target) name = refl

or_none : (b : Bool) → (b || false) ≡ b
or_none true = refl
or_none false = refl

or_all : (b : Bool) → (b || true) ≡ true
or_all true = refl
or_all false = refl

-- ---- on the way

module _ (whole t : Tree) (parent now : ℕ) (name : List ℕ) (seen : List ℕ) (done : ℕ → List ℕ → Bool) (fits : parent < whole.next_inode)
    (partial : IsPartial whole t parent now name seen done) where
  abbrev number : ℕ → ℕ
  number x = copy_number whole.next_inode seen x

  -- ---- one entry more

  module _ (q y : ℕ) (n : List ℕ) (among : is_among seen q ≡ true) (names : entry_at whole q n ≡ Some y) (child : is_among seen y ≡ true) where
    abbrev f : Node → Node
    f = entered n (copy_number whole.next_inode seen y)

    abbrev after : Tree
    after = change_node (copy_number whole.next_inode seen q) (entered n (copy_number whole.next_inode seen y)) t

    abbrev now_done : ℕ → List ℕ → Bool
    now_done = also_entry done q n

    keeps : KeepsNumbers t after
    keeps = KeepsNumbers-change_node f (number q) t

    -- other copies
    stays : (x : ℕ) → is_among seen x ≡ true → x ≢ q → node_at after (number x) ≡ node_at t (number x)
    stays x within apart =
        node_at-change_node_other f (number q) (number x) t (λ same. apart (place_of-one seen x q within (omega (arith, same))))

    copy_is : HasCopy whole t now q (number q)
    copy_is = partial.copies q among

    here : node_at after (number q) ≡ Some (f (begun now copy_is.content copy_is.node))
    here = node_at-change_node_same f (number q) t ∙ ap (option_map f) copy_is.is

    names_it : entry_of copy_is.node.content n ≡ Some y
    names_it = ap (entry_in n) (sym copy_is.was) ∙ names

    copies_after : (x : ℕ) → is_among seen x ≡ true → HasCopy whole after now x (number x)
    copies_after x within =
        elim (cases_eq x q) [
          | inl same ↦ subst (λ z. HasCopy whole after now z (number z)) (sym same) (record {
            node = copy_is.node;
            content = named n (number y) copy_is.content;
            was = copy_is.was;
            is = here;
            content_is = content_named n (number y) copy_is.node.content copy_is.content copy_is.content_is;
          })
          | inr apart ↦
              let copy : HasCopy whole t now x (number x) = partial.copies x within in
              record { node = copy.node; content = copy.content; was = copy.was; is = stays x within apart ∙ copy.is; content_is = copy.content_is }
        ]

    abbrev choice : Bool → ℕ → List ℕ → Option ℕ
    choice b x other = cond b (option_map number (entry_at whole x other)) None

    entries_here : (other : List ℕ) → entry_at after (number q) other ≡ choice (now_done q other) q other
    entries_here other =
        elim (cases_name other n) [
          | inl same ↦
              ap (entry_at after (number q)) same ∙ ap (entry_in n) here
              ∙ entry_named_same n (number y) copy_is.node.content copy_is.content y copy_is.content_is names_it
              ∙ sym (ap (option_map number) names)
              ∙ ap (λ m. option_map number (entry_at whole q m)) (sym same)
              ∙ sym (ap (λ b. choice b q other) (all_done same))
          | inr apart ↦
              ap (entry_in other) here ∙ entry_named_other n other (number y) copy_is.content apart
              ∙ ap (entry_in other) (sym copy_is.is) ∙ partial.entries q other among
              ∙ sym (ap (λ b. choice b q other) (as_done apart))
        ]
      where
        all_done : other ≡ n → now_done q other ≡ true
        all_done same =
            ap (λ b. done q other || (b && is_eq (slice_cmp nat_cmp other n))) (eq-eqb q q refl)
            ∙ ap (λ b. done q other || b) (ap (λ m. is_at (slice_cmp nat_cmp m) n) same ∙ own_name n) ∙ or_all (done q other)

        as_done : other ≢ n → now_done q other ≡ done q other
        as_done apart =
            ap (λ b. done q other || (b && is_eq (slice_cmp nat_cmp other n))) (eq-eqb q q refl)
            ∙ ap (λ b. done q other || b) (other_name other n apart) ∙ or_none (done q other)

    entries_after : (x : ℕ) (other : List ℕ) → is_among seen x ≡ true → entry_at after (number x) other ≡ choice (now_done x other) x other
    entries_after x other within =
        elim (cases_eq x q) [
          | inl same ↦ subst (λ z. entry_at after (number z) other ≡ choice (now_done z other) z other) (sym same) (entries_here other)
          | inr apart ↦
              ap (entry_in other) (stays x within apart) ∙ partial.entries x other within ∙ sym (ap (λ b. choice b x other) (as_done (x == q) refl apart))
        ]
      where
        as_done : (b : Bool) → (x == q) ≡ b → x ≢ q → now_done x other ≡ done x other
        as_done true is apart = absurd (apart (eqb-true x q is))
        as_done false is apart = ap (λ b. done x other || (b && is_eq (slice_cmp nat_cmp other n))) is ∙ or_none (done x other)

    -- what is done now
    was_done : {X : Type 0} (x : ℕ) (other : List ℕ) → now_done x other ≡ true → (done x other ≡ true → X) → (x ≡ q → other ≡ n → X) → X
    was_done x other is before just =
        elim (or_cases (done x other) (x == q && is_eq (slice_cmp nat_cmp other n)) is) [
          | inl old ↦ before old
          | inr new ↦
              let parts = and_parts (x == q) (is_eq (slice_cmp nat_cmp other n)) new in
              elim (cases_name other n) [
                | inl same ↦ just (eqb-true x q parts.0) same
                | inr apart ↦ absurd (both_ways (is_at (slice_cmp nat_cmp other) n) (other_name other n apart) parts.1)
              ]
        ]

    pub IsPartial-entry : IsPartial whole after parent now name seen now_done
    IsPartial-entry = record {
      next_inode = keeps.next_inode ∙ partial.next_inode;
      handles = keeps.handles ∙ partial.handles;
      next_handle = keeps.next_handle ∙ partial.next_handle;
      block_size = keeps.block_size ∙ partial.block_size;
      ordered = InOrder-change_node f (number q) t partial.ordered;
      names = NamesInOrder-change_node f (λ node rise. rise-named n (number y) node.content rise) (number q) t partial.names;
      old = λ z less apart. node_at-change_node_other f (number q) z t (λ same. omega (arith, same, less)) ∙ partial.old z less apart;
      directory = node_at-change_node_other f (number q) parent t (λ same. omega (arith, same, fits)) ∙ partial.directory;
      copies = copies_after;
      only = λ z least less. partial.only z least (omega (arith, less, keeps.next_inode));
      within = λ x other is. was_done x other is (λ old. partial.within x other old) (λ same text. ap (is_among seen) same ∙ among);
      children = λ x z other is there.
          was_done x other is (λ old. partial.children x z other old there)
          (λ same text.
          let both : Some z ≡ Some y = sym there ∙ (λ i. entry_at whole (same i) (text i)) ∙ names in
          let one : z ≡ y = cc both in
          ap (is_among seen) one ∙ child);
      entries = entries_after;
    }

  -- ---- one node more

  module _ (after : Tree) (y : ℕ) (node : Node) (more : HasMore t after (begun now (without_entries node.content) node)) (was : node_at whole y ≡ Some node)
      (new : is_among seen y ≡ false) where
    abbrev now_seen : List ℕ
    now_seen = seen ++ y ∷ []

    abbrev later : ℕ → ℕ
    later x = copy_number whole.next_inode now_seen x

    same_number : (x : ℕ) → is_among seen x ≡ true → later x ≡ number x
    same_number x among = ap (λ k. whole.next_inode + k) (place_stays seen (y ∷ []) x among)

    new_number : later y ≡ t.next_inode
    new_number = ap (λ k. whole.next_inode + k) (place_last seen y new) ∙ sym partial.next_inode

    below_next : (x : ℕ) → is_among seen x ≡ true → number x ≢ t.next_inode
    below_next x among same = omega (arith, same, partial.next_inode, place_within seen x among)

    parts : {X : Type 0} (x : ℕ) → is_among now_seen x ≡ true → (is_among seen x ≡ true → X) → (y ≡ x → X) → X
    parts x among first last =
        elim (or_cases (is_among seen x) (y == x) (sym (among_last seen y x) ∙ among)) [
          | inl old ↦ first old
          | inr here ↦ last (eqb-true y x here)
        ]

    there : HasCopy whole after now y (later y)
    there = record {
      node = node;
      content = without_entries node.content;
      was = was;
      is = ap (node_at after) new_number ∙ more.there;
      content_is = content_begun node.content;
    }

    old_there : (x : ℕ) → is_among seen x ≡ true → node_at after (later x) ≡ node_at t (number x)
    old_there x among = ap (node_at after) (same_number x among) ∙ more.others (number x) (below_next x among)

    copies_more : (x : ℕ) → is_among now_seen x ≡ true → HasCopy whole after now x (later x)
    copies_more x among =
        parts x among
        (λ old.
        let copy : HasCopy whole t now x (number x) = partial.copies x old in
        record { node = copy.node; content = copy.content; was = copy.was; is = old_there x old ∙ copy.is; content_is = copy.content_is })
        (λ same. subst (λ z. HasCopy whole after now z (later z)) same there)

    not_done : (other : List ℕ) (b : Bool) → done y other ≡ b → b ≡ false
    not_done other true is = absurd (both_ways (is_among seen y) new (partial.within y other is))
    not_done other false is = refl

    same_child : (x : ℕ) (other : List ℕ) → done x other ≡ true → (found : Option ℕ) → entry_at whole x other ≡ found
        → option_map number found ≡ option_map later found
    same_child x other is None found = refl
    same_child x other is (Some z) found = ap Some (sym (same_number z (partial.children x z other is found)))

    same_choice : (x : ℕ) (other : List ℕ) (b : Bool) → done x other ≡ b
        → cond b (option_map number (entry_at whole x other)) None ≡ cond b (option_map later (entry_at whole x other)) None
    same_choice x other true is = same_child x other is (entry_at whole x other) refl
    same_choice x other false is = refl

    entries_more : (x : ℕ) (other : List ℕ) → is_among now_seen x ≡ true
        → entry_at after (later x) other ≡ cond (done x other) (option_map later (entry_at whole x other)) None
    unfolding there
    entries_more x other among =
        parts x among
        (λ old. ap (entry_in other) (old_there x old) ∙ partial.entries x other old ∙ same_choice x other (done x other) refl)
        (λ same. subst (λ z. entry_at after (later z) other ≡ cond (done z other) (option_map later (entry_at whole z other)) None) same
        (ap (entry_in other) there.is ∙ none_begun node.content other
        ∙ sym (ap (λ b. cond b (option_map later (entry_at whole y other)) None) (not_done other (done y other) refl))))

    pub IsPartial-node : IsPartial whole after parent now name now_seen done
    IsPartial-node =
        let longer : length now_seen ≡ length seen + 1 = length-append seen (y ∷ []) in
        record {
          next_inode = omega (arith, more.next_inode, partial.next_inode, longer);
          handles = more.handles ∙ partial.handles;
          next_handle = more.next_handle ∙ partial.next_handle;
          block_size = more.block_size ∙ partial.block_size;
          ordered = more.ordered;
          names = more.names;
          old = λ z less apart. more.others z (λ same. omega (arith, same, less, partial.next_inode)) ∙ partial.old z less apart;
          directory = more.others parent (λ same. omega (arith, same, fits, partial.next_inode)) ∙ partial.directory;
          copies = copies_more;
          only = λ z least less.
              elim (cases_eq z t.next_inode) [
                | inl same ↦ (y, among_last seen y y ∙ ap (λ b. is_among seen y || b) (eq-eqb y y refl) ∙ or_all (is_among seen y), same ∙ sym new_number)
                | inr apart ↦
                    let from = partial.only z least (omega (arith, less, apart, more.next_inode)) in
                    (from.0, among_first seen (y ∷ []) from.0 from.1, from.2 ∙ sym (same_number from.0 from.1))
              ];
          within = λ x other is. among_first seen (y ∷ []) x (partial.within x other is);
          children = λ x z other is found. among_first seen (y ∷ []) z (partial.children x z other is found);
          entries = entries_more;
        }

-- ---- the first node, and its entry in another directory

module _ (whole after : Tree) (source parent now : ℕ) (name : List ℕ) (node : Node) (fits : parent < whole.next_inode)
    (more : HasMore whole after (begun now (without_entries node.content) node)) (was : node_at whole source ≡ Some node) where
  abbrev first : List ℕ
  first = source ∷ []

  abbrev touch : Node → Node
  touch = λ node. touched now (record node { content = named name whole.next_inode node.content })

  abbrev last : Tree
  last = add_entry parent name whole.next_inode now after

  kept : KeepsNumbers after last
  kept = KeepsNumbers-change_node touch parent after

  source_of : {X : Type 0} (x : ℕ) → is_among first x ≡ true → (source ≡ x → X) → X
  source_of x among then = then (eqb-true source x (sym (or_none (source == x)) ∙ among))

  first_number : copy_number whole.next_inode first source ≡ whole.next_inode
  first_number = ap (λ b. whole.next_inode + cond {A = ℕ} b 0 1) (eq-eqb source source refl) ∙ omega arith

  is_there : node_at last (copy_number whole.next_inode first source) ≡ Some (begun now (without_entries node.content) node)
  is_there =
      ap (node_at last) first_number
      ∙ node_at-change_node_other touch parent whole.next_inode after (λ same. omega (arith, same, fits)) ∙ more.there

  pub IsPartial-first : IsPartial whole last parent now name first (λ x other. false)
  IsPartial-first = record {
    next_inode = kept.next_inode ∙ more.next_inode;
    handles = kept.handles ∙ more.handles;
    next_handle = kept.next_handle ∙ more.next_handle;
    block_size = kept.block_size ∙ more.block_size;
    ordered = InOrder-change_node touch parent after more.ordered;
    names = NamesInOrder-add_entry parent name whole.next_inode now after more.names;
    old = λ z less apart. node_at-change_node_other touch parent z after apart ∙ more.others z (λ same. omega (arith, same, less));
    directory = node_at-change_node_same touch parent after ∙ ap (option_map touch) (more.others parent (λ same. omega (arith, same, fits)));
    copies = λ x among. source_of x among (λ same. subst (λ z. HasCopy whole last now z (copy_number whole.next_inode first z)) same (record {
      node = node;
      content = without_entries node.content;
      was = was;
      is = is_there;
      content_is = content_begun node.content;
    }));
    only = λ z least less.
        (source, ap (λ b. b || false) (eq-eqb source source refl), omega (arith, least, less, kept.next_inode, more.next_inode) ∙ sym first_number);
    within = λ x other is. absurd (cc is);
    children = λ x y other is there. absurd (cc is);
    entries = λ x other among. source_of x among (λ same. subst (λ z. entry_at last (copy_number whole.next_inode first z) other ≡ None) same
        (ap (entry_in other) is_there ∙ none_begun node.content other));
  }
