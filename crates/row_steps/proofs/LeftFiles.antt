-- Nameless files without places that go with the last handles of a pass.
use Rattle.std.proofs.Common.{◌≡◌, ℕ, List, [], ◌∷◌, ◌++◌, map, Bool, true, false, cond, Option, Some, refl, sym, ap, ◌∙◌, subst, arith, eq-eqb, eqb-true}
use Rattle.std.specs.Prelude.{IsTrue, not, ◌&&◌, ◌||◌, ◌==◌, filter, option_map, unwrap_or}
use Rattle.std.specs.List.{list_all, AllByRecursion}
use Rattle.std.specs.Cmp.{nat_cmp_total}
use Rattle.std.proofs.lemmas.Bool.{and_parts}
use Rattle.op_frames.specs.declared.operation.Op.TheVariants as ops
use Rattle.plain_tree.specs.Tree.{Handle, Node, Tree}
use Rattle.plain_tree.specs.Below.{is_among}
use Rattle.plain_tree.specs.Entries.{lives}
use Rattle.plain_tree.specs.Operations.{effect}
use Rattle.plain_tree.specs.WellFormed.{IsWellFormed}
use Rattle.s3_rows.specs.Rows.{Inode, Content, InodeBlock, Slot, Attr, Target, Parameters}
use Rattle.s3_rows.specs.Keyed.{has_key, without}
use Rattle.s3_rows.specs.Tables.{Tables, by_inode}
use Rattle.s3_rows.specs.Batches.{tables_after}
use Rattle.s3_rows.specs.Selections.{inode_at, target_at}
use Rattle.s3_rows.specs.Validity.{IsValid, HasUniqueNames, differ}
use Rattle.row_lemmas.proofs.Tests.{eqb_comm, false_from_not, is_eq-nat_cmp}
use Rattle.row_lemmas.proofs.Keyed.RowAt.{row_at_own}
use Rattle.row_lemmas.proofs.Tables.{tables_after-tables_after}
use Rattle.tree_laws.proofs.WellFormed.{IsWellFormed-effect}
use Rattle.tree_rows.specs.Shapes.{NodeShape, TreeShape, node_of_row, shape_of_node, Represents}
use Rattle.ref_counts.specs.Plans.{IsStep}
use Rattle.ref_counts.specs.Removals.{attrs_dropped, attrs_of, removal, removals, target_dropped}
use Rattle.s3_rows.specs.declared.change.Change.TheVariants as changes
use Rattle.row_steps.specs.Owed.{IsBare, Owes}
use Rattle.row_steps.proofs.Less.{IsLess, IsLess-refl, IsStep-less}
use Rattle.row_steps.proofs.Owed.Ends.{Owes-IsValid}
use Rattle.row_steps.proofs.Removing.{HasUniqueNames-removal, Owes-removal, attrs-removal, attrs_of-removal_other, gone, node_of_row-removal, tables_after-removal, target_at-removal_other}
use Rattle.row_steps.proofs.Shape.Rows.{row_shape}

-- ---- filters

filter-filter_both : {R : Type 0} (p q s : R → Bool) → ((r : R) → s r ≡ (q r && p r)) → (rows : List R) → filter p (filter q rows) ≡ filter s rows
filter-filter_both p q s same [] = refl
filter-filter_both {R} p q s same (r ∷ rs) =
    by_case (filter-filter_both p q s same rs) (q r) (p r) refl ∙ ap (λ b. cond b (r ∷ filter s rs) (filter s rs)) (sym (same r))
  where
    by_case : filter p (filter q rs) ≡ filter s rs → (b c : Bool) → p r ≡ c
        → filter p (cond b (r ∷ filter q rs) (filter q rs)) ≡ cond (b && c) (r ∷ filter s rs) (filter s rs)
    by_case others true true passes = ap (λ d. cond d (r ∷ filter p (filter q rs)) (filter p (filter q rs))) passes ∙ ap (λ ys. r ∷ ys) others
    by_case others true false fails = ap (λ d. cond d (r ∷ filter p (filter q rs)) (filter p (filter q rs))) fails ∙ others
    by_case others false c own = others

filter-map : {X Y : Type 0} (f : X → Y) (p : Y → Bool) (xs : List X) → filter p (map f xs) ≡ map f (filter (λ x. p (f x)) xs)
filter-map f p [] = refl
filter-map f p (x ∷ xs) = by_case (filter-map f p xs) (p (f x))
  where
    by_case : filter p (map f xs) ≡ map f (filter (λ y. p (f y)) xs) → (b : Bool)
        → cond b (f x ∷ filter p (map f xs)) (filter p (map f xs)) ≡ map f (cond b (x ∷ filter (λ y. p (f y)) xs) (filter (λ y. p (f y)) xs))
    by_case others true = ap (λ ys. f x ∷ ys) others
    by_case others false = others

map-filter_agree : {X Y : Type 0} (f g : X → Y) (p : X → Bool) → ((x : X) → p x ≡ true → f x ≡ g x) → (xs : List X) → map f (filter p xs) ≡ map g (filter p xs)
map-filter_agree f g p same [] = refl
map-filter_agree f g p same (x ∷ xs) = by_case (map-filter_agree f g p same xs) (p x) refl
  where
    by_case : map f (filter p xs) ≡ map g (filter p xs) → (b : Bool) → p x ≡ b → map f (cond b (x ∷ filter p xs) (filter p xs)) ≡ map g (cond b (x ∷ filter p xs) (filter p xs))
    by_case others true passes = λ i. same x passes i ∷ others i
    by_case others false fails = others

filter_agree : {X : Type 0} (p q : X → Bool) (xs : List X) → AllByRecursion (λ x. p x ≡ q x) xs → filter p xs ≡ filter q xs
filter_agree p q [] same = refl
filter_agree p q (x ∷ xs) same = λ i. cond (same.0 i) (x ∷ filter_agree p q xs same.1 i) (filter_agree p q xs same.1 i)

-- ---- tables without inodes

-- the inodes that pass the test are gone, with all that was their own
pub record IsSwept (t u : Tables) (p : Parameters) (dead : ℕ → Bool) : Type 0 where
  pub owes : Owes u p [] []
  pub less : IsLess t u
  pub contents : u.contents ≡ t.contents
  pub inodes : u.inodes ≡ filter (λ (r : Inode). not (dead r.id)) t.inodes
  pub nodes : (x : Inode) → dead x.id ≡ false → node_of_row u x ≡ node_of_row t x
  pub attrs : (x : ℕ) → dead x ≡ false → attrs_of u x ≡ attrs_of t x
  pub targets : (x : ℕ) → dead x ≡ false → target_at u x ≡ target_at t x
  pub unique : HasUniqueNames t → HasUniqueNames u

both_fail : (a b : Bool) → (a || b) ≡ false → (a ≡ false) × (b ≡ false)
both_fail true b is = absurd (cc is)
both_fail false b is = (refl, is)

none_gone : (rows : List Inode) → rows ≡ filter (λ (r : Inode). not false) rows
none_gone [] = refl
none_gone (r ∷ rs) = ap (λ xs. r ∷ xs) (none_gone rs)

IsSwept-none : (t : Tables) (p : Parameters) → Owes t p [] [] → IsSwept t t p (λ x. false)
IsSwept-none t p o = record {
  owes = o;
  less = IsLess-refl t;
  contents = refl;
  inodes = none_gone t.inodes;
  nodes = λ x other. refl;
  attrs = λ x other. refl;
  targets = λ x other. refl;
  unique = λ u. u;
}

module _ (t u : Tables) (p : Parameters) (dead : ℕ → Bool) (s : IsSwept t u p dead) (x : ℕ) (alive : dead x ≡ false) (bare : IsBare t x) where
  bare_now : IsBare u x
  bare_now = record {
    entries = subst (λ (rows : List Content). IsTrue (list_all (λ (r : Content). not (r.parent == x)) rows)) (sym s.contents) bare.entries;
    inode_blocks = subst (λ (rows : List InodeBlock). IsTrue (list_all (λ (r : InodeBlock). not (r.inode == x)) rows)) (sym s.less.inode_blocks) bare.inode_blocks;
    slots = subst (λ (rows : List Slot). IsTrue (list_all (λ (r : Slot). not (r.inode == x)) rows)) (sym s.less.slots) bare.slots;
  }

  abbrev v : Tables
  v = gone u p x [] [] [] s.owes bare_now (λ y other. refl)

  swept_is : tables_after (removal t x u) u ≡ v
  swept_is =
      ap (λ (attrs : List Attr). tables_after (attrs_dropped attrs u ++ target_dropped (target_at t x) x ++ changes.DeleteInode x ∷ []) u) (sym (s.attrs x alive))
      ∙ ap (λ (found : Option Target). tables_after (attrs_dropped (attrs_of u x) u ++ target_dropped found x ++ changes.DeleteInode x ∷ []) u) (sym (s.targets x alive))
      ∙ tables_after-removal u p x [] [] [] s.owes bare_now (λ y other. refl)

  other_than : (y : ℕ) → ((x == y) || dead y) ≡ false → ((y == x) ≡ false) × (dead y ≡ false)
  other_than y other =
      let parts = both_fail (x == y) (dead y) other in
      (eqb_comm y x ∙ parts.0, parts.1)

  IsSwept-more : IsSwept t (tables_after (removal t x u) u) p (λ y. (x == y) || dead y)
  IsSwept-more = subst (λ (w : Tables). IsSwept t w p (λ y. (x == y) || dead y)) (sym swept_is) (record {
    owes = Owes-removal u p x [] [] [] s.owes bare_now (λ y other. refl);
    less = record {
      params = s.less.params;
      inode_blocks = s.less.inode_blocks;
      blocks = s.less.blocks;
      objects = s.less.objects;
      slots = s.less.slots;
      contents = s.less.contents;
      attrs = omega (arith, s.less.attrs, attrs-removal u p x [] [] [] s.owes bare_now (λ y other. refl));
    };
    contents = s.contents;
    inodes =
        ap (without by_inode x) s.inodes
        ∙ filter-filter_both (λ (r : Inode). not (has_key by_inode x r)) (λ (r : Inode). not (dead r.id)) (λ (r : Inode). not ((x == r.id) || dead r.id))
        (λ r. both (x == r.id) (dead r.id) ∙ ap (λ b. not (dead r.id) && not b) (sym (is_eq-nat_cmp x r.id))) t.inodes;
    nodes =
        λ y other.
        let parts = other_than y.id other in
        node_of_row-removal u p x [] [] [] s.owes bare_now (λ z o. refl) y parts.0 ∙ s.nodes y parts.1;
    attrs =
        λ y other.
        let parts = other_than y other in
        attrs_of-removal_other u p x [] [] [] s.owes bare_now (λ z o. refl) y parts.0 ∙ s.attrs y parts.1;
    targets =
        λ y other.
        let parts = other_than y other in
        target_at-removal_other u p x [] [] [] s.owes bare_now (λ z o. refl) y parts.0 ∙ s.targets y parts.1;
    unique = λ unique. HasUniqueNames-removal u p x [] [] [] s.owes bare_now (λ z o. refl) (s.unique unique);
  })
    where
      both : (a b : Bool) → not (a || b) ≡ (not b && not a)
      both true true = refl
      both true false = refl
      both false true = refl
      both false false = refl

-- one inode after the other goes
swept_all : (t : Tables) (p : Parameters) (inodes : List ℕ) (u : Tables) (dead : ℕ → Bool) → IsSwept t u p dead
    → ((x : ℕ) → IsTrue (is_among inodes x) → IsBare t x × (dead x ≡ false)) → IsTrue (differ (λ a b. b == a) inodes)
    → IsSwept t (tables_after (removals t inodes u) u) p (λ y. is_among inodes y || dead y)
swept_all t p [] u dead s each apart = s
swept_all t p (x ∷ xs) u dead s each apart =
    let here = each x (ap (λ b. b || is_among xs x) (same_number x)) in
    let later = and_parts (not (is_among xs x)) (differ (λ a b. b == a) xs) apart in
    let rest : IsSwept t (tables_after (removals t xs (tables_after (removal t x u) u)) (tables_after (removal t x u) u)) p (λ y. is_among xs y || ((x == y) || dead y)) =
    swept_all t p xs (tables_after (removal t x u) u) (λ y. (x == y) || dead y) (IsSwept-more t u p dead s x here.1 here.0)
    (λ y among. (
      (each y (either (x == y) (is_among xs y) among)).0,
      (λ i. not_first y among (false_from_not (is_among xs x) later.0) (x == y) refl i || (each y (either (x == y) (is_among xs y) among)).1 i),
    )) later.1 in
    subst (λ (w : Tables). IsSwept t w p (λ y. is_among (x ∷ xs) y || dead y)) (tables_after-tables_after (removal t x u) (removals t xs (tables_after (removal t x u) u)) u)
    (subst (λ (d : ℕ → Bool). IsSwept t (tables_after (removals t xs (tables_after (removal t x u) u)) (tables_after (removal t x u) u)) p d)
    (λ i y. turned (x == y) (is_among xs y) (dead y) i) rest)
  where
    same_number : (n : ℕ) → (n == n) ≡ true
    same_number n = eq-eqb n n refl

    either : (a b : Bool) → IsTrue b → IsTrue (a || b)
    either true b is = refl
    either false b is = is

    not_first : (y : ℕ) → IsTrue (is_among xs y) → is_among xs x ≡ false → (b : Bool) → (x == y) ≡ b → b ≡ false
    not_first y among none true same =
        let clash : true ≡ false = sym among ∙ ap (is_among xs) (sym (eqb-true x y same)) ∙ none in
        absurd (cc clash)
    not_first y among none false same = refl

    turned : (a b c : Bool) → (b || (a || c)) ≡ ((a || b) || c)
    turned true true c = refl
    turned true false c = refl
    turned false true c = refl
    turned false false c = refl

-- ---- a pass that leaves

or_false : (b : Bool) → (b || false) ≡ b
or_false true = refl
or_false false = refl

pub swept_files : (t : Tables) (p : Parameters) (inodes : List ℕ) → IsValid t → t.params ≡ Some p → ((x : ℕ) → IsTrue (is_among inodes x) → IsBare t x)
    → IsTrue (differ (λ a b. b == a) inodes) → IsSwept t (tables_after (removals t inodes t) t) p (is_among inodes)
swept_files t p inodes v made bare apart =
    subst (λ (d : ℕ → Bool). IsSwept t (tables_after (removals t inodes t) t) p d) (λ i y. or_false (is_among inodes y) i)
    (swept_all t p inodes t (λ x. false) (IsSwept-none t p (Owes-IsValid t p v made)) (λ x among. (bare x among, refl)) apart)

pub bare_files_step : (t : Tables) (whole : Tree) (p : Parameters) (pass now : ℕ) (inodes : List ℕ)
    → IsValid t → HasUniqueNames t → IsWellFormed whole → Represents t whole → t.params ≡ Some p
    → ((x : ℕ) → IsTrue (is_among inodes x) → IsBare t x) → IsTrue (differ (λ a b. b == a) inodes)
    → ((r : Inode) → inode_at t r.id ≡ Some r
    → lives (record whole { handles = filter (λ (h : ℕ × Handle). not (h.1.pass == pass)) whole.handles }) r.id ≡ not (is_among inodes r.id))
    → IsStep t (tables_after (removals t inodes t) t) (effect whole pass ops.Leave now) 0
bare_files_step t whole p pass now inodes v unique well same made bare apart dead =
    IsStep-less t (tables_after (removals t inodes t) t) (effect whole pass ops.Leave now) p swept.owes represents (IsWellFormed-effect whole pass now ops.Leave well refl)
    swept.unique swept.less
  where
    swept : IsSwept t (tables_after (removals t inodes t) t) p (is_among inodes)
    swept = swept_files t p inodes v made bare apart

    not_true : (b : Bool) → not b ≡ true → b ≡ false
    not_true true is = absurd (cc is)
    not_true false is = refl

    each_lives : (rows : List Inode) → AllByRecursion (λ (r : Inode). inode_at t r.id ≡ Some r) rows
        → AllByRecursion (λ (r : Inode). not (is_among inodes r.id) ≡ lives (record whole { handles = filter (λ (h : ℕ × Handle). not (h.1.pass == pass)) whole.handles }) r.id) rows
    each_lives [] there = tt
    each_lives (r ∷ rs) there = (sym (dead r there.0), each_lives rs there.1)

    nodes : map (row_shape (tables_after (removals t inodes t) t)) (tables_after (removals t inodes t) t).inodes
        ≡ map (λ (e : ℕ × Node). (e.0, shape_of_node e.1)) (filter (λ (e : ℕ × Node). lives (record whole { handles = filter (λ (h : ℕ × Handle). not (h.1.pass == pass)) whole.handles }) e.0) whole.nodes)
    nodes =
        let closed : Tree = record whole { handles = filter (λ (h : ℕ × Handle). not (h.1.pass == pass)) whole.handles } in
        let u : Tables = tables_after (removals t inodes t) t in
        let of_node : ℕ × Node → ℕ × NodeShape = λ e. (e.0, shape_of_node e.1) in
        let lives_on : ℕ × NodeShape → Bool = λ e. lives closed e.0 in
        ap (map (row_shape u)) swept.inodes
        ∙ map-filter_agree (row_shape u) (row_shape t) (λ (r : Inode). not (is_among inodes r.id))
        (λ r alive i. (r.id, swept.nodes r (not_true (is_among inodes r.id) alive) i)) t.inodes
        ∙ ap (map (row_shape t))
        (filter_agree (λ (r : Inode). not (is_among inodes r.id)) (λ (r : Inode). lives closed r.id) t.inodes
        (each_lives t.inodes (row_at_own by_inode nat_cmp_total t.inodes v.ordered.inodes)))
        ∙ sym (filter-map (row_shape t) lives_on t.inodes)
        ∙ ap (λ (shape : TreeShape). filter lives_on shape.nodes) same
        ∙ filter-map of_node lives_on whole.nodes

    represents : Represents (tables_after (removals t inodes t) t) (effect whole pass ops.Leave now)
    represents =
        let u : Tables = tables_after (removals t inodes t) t in
        λ i. record {
          block_size = (ap (λ (q : Option Parameters). unwrap_or (option_map (λ (x : Parameters). x.block_size) q) 0) swept.less.params ∙ ap (λ (shape : TreeShape). shape.block_size) same) i;
          next_inode = (ap (λ (q : Option Parameters). unwrap_or (option_map (λ (x : Parameters). x.next_inode) q) 0) swept.less.params ∙ ap (λ (shape : TreeShape). shape.next_inode) same) i;
          nodes = nodes i;
        }
