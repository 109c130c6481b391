-- What look-ups find among nodes of which some are locked, or go with a subtree.
use Rattle.std.proofs.Common.{◌≡◌, ℕ, ◌+◌, List, [], ◌∷◌, Bool, true, false, cond, Option, None, Some, refl, sym, ap, ◌∙◌, arith}
use Rattle.std.specs.BTreeMap.{is_at}
use Rattle.std.specs.List.{filter, filter_map, cons_option}
use Rattle.std.specs.Map.{keys_of, lookup}
use Rattle.std.specs.Option.{option_map}
use Rattle.std.specs.Ordering.{nat_cmp}
use Rattle.std.specs.Prelude.{◌&&◌, not, option_and_then, map}
use Rattle.plain_tree.specs.Below.{is_among}
use Rattle.plain_tree.specs.Entries.{is_directory, lives}
use Rattle.plain_tree.specs.Numbers.{Ascend}
use Rattle.plain_tree.specs.Subtrees.{left_over}
use Rattle.plain_tree.specs.Tree.{Node, Tree, entry_of, stamped}
use Rattle.tree_laws.proofs.Node.Ascend.{Ascend-filter_map, Ascend-filter}
use Rattle.tree_laws.proofs.Node.Keys.{same_number}
use Rattle.tree_laws.proofs.Node.Kind.{entry_in, holds_directory}
use Rattle.tree_laws.proofs.Node.Reading.{lookup_none_below}

-- ---- nodes of which some go

-- what a map that may drop nodes leaves of one that was found
abbrev pub left_of : (ℕ × Node → Option (ℕ × Node)) → ℕ → Option Node → Option Node
left_of keep x found = option_and_then (λ (node : Node). option_map (λ (p : ℕ × Node). p.1) (keep (x, node))) found

left_one : (keep : ℕ × Node → Option (ℕ × Node)) → ((e y : ℕ × Node) → keep e ≡ Some y → y.0 ≡ e.0) → (x : ℕ) (e : ℕ × Node) (es : List (ℕ × Node)) (next : ℕ) → Ascend (e.0 + 1) (keys_of es) next
    → (result : Option (ℕ × Node)) → keep e ≡ result → (test : Bool) → is_at (nat_cmp x) e.0 ≡ test
    → lookup (is_at (nat_cmp x)) (filter_map keep es) ≡ left_of keep x (lookup (is_at (nat_cmp x)) es)
    → lookup (is_at (nat_cmp x)) (cons_option result (filter_map keep es)) ≡ left_of keep x (cond test (Some e.1) (lookup (is_at (nat_cmp x)) es))
left_one keep keys x e es next ascend None is true here rest =
    let same : x ≡ e.0 = same_number x e.0 here in
    lookup_none_below x (e.0 + 1) (filter_map keep es) next (Ascend-filter_map keep keys (e.0 + 1) es next ascend) (omega (arith, same))
    ∙ sym (ap (option_map (λ (p : ℕ × Node). p.1)) (ap (λ k. keep (k, e.1)) same ∙ is))
left_one keep keys x e es next ascend (Some y) is true here rest =
    let same : x ≡ e.0 = same_number x e.0 here in
    ap (λ b. cond b (Some y.1) (lookup (is_at (nat_cmp x)) (filter_map keep es))) (ap (is_at (nat_cmp x)) (keys e y is) ∙ here)
    ∙ sym (ap (option_map (λ (p : ℕ × Node). p.1)) (ap (λ k. keep (k, e.1)) same ∙ is))
left_one keep keys x e es next ascend None is false here rest = rest
left_one keep keys x e es next ascend (Some y) is false here rest =
    ap (λ b. cond b (Some y.1) (lookup (is_at (nat_cmp x)) (filter_map keep es))) (ap (is_at (nat_cmp x)) (keys e y is) ∙ here) ∙ rest

left_found : (keep : ℕ × Node → Option (ℕ × Node)) → ((e y : ℕ × Node) → keep e ≡ Some y → y.0 ≡ e.0) → (x low : ℕ) (es : List (ℕ × Node)) (next : ℕ) → Ascend low (keys_of es) next
    → lookup (is_at (nat_cmp x)) (filter_map keep es) ≡ left_of keep x (lookup (is_at (nat_cmp x)) es)
left_found keep keys x low [] next ascend = refl
left_found keep keys x low (e ∷ es) next ascend =
    left_one keep keys x e es next ascend.1 (keep e) refl (is_at (nat_cmp x) e.0) refl (left_found keep keys x (e.0 + 1) es next ascend.1)

-- a node that a filter lets through
abbrev pub sifted_node : (ℕ × Node → Bool) → ℕ → Option Node → Option Node
sifted_node test x found = option_and_then (λ (node : Node). cond (test (x, node)) (Some node) None) found

sifted_one : (test : ℕ × Node → Bool) (x : ℕ) (e : ℕ × Node) (es : List (ℕ × Node)) (next : ℕ) → Ascend (e.0 + 1) (keys_of es) next → (stays : Bool) → test e ≡ stays → (here : Bool)
    → is_at (nat_cmp x) e.0 ≡ here → lookup (is_at (nat_cmp x)) (filter test es) ≡ sifted_node test x (lookup (is_at (nat_cmp x)) es)
    → lookup (is_at (nat_cmp x)) (cond stays (e ∷ filter test es) (filter test es)) ≡ sifted_node test x (cond here (Some e.1) (lookup (is_at (nat_cmp x)) es))
sifted_one test x e es next ascend true is true here rest =
    ap (λ b. cond b (Some e.1) (lookup (is_at (nat_cmp x)) (filter test es))) here ∙ sym (ap (λ b. cond b (Some e.1) None) (ap (λ k. test (k, e.1)) (same_number x e.0 here) ∙ is))
sifted_one test x e es next ascend false is true here rest =
    let same : x ≡ e.0 = same_number x e.0 here in
    lookup_none_below x (e.0 + 1) (filter test es) next (Ascend-filter (e.0 + 1) test es next ascend) (omega (arith, same)) ∙ sym (ap (λ b. cond b (Some e.1) None) (ap (λ k. test (k, e.1)) same ∙ is))
sifted_one test x e es next ascend true is false here rest = ap (λ b. cond b (Some e.1) (lookup (is_at (nat_cmp x)) (filter test es))) here ∙ rest
sifted_one test x e es next ascend false is false here rest = rest

sifted_found : (test : ℕ × Node → Bool) (x low : ℕ) (es : List (ℕ × Node)) (next : ℕ) → Ascend low (keys_of es) next
    → lookup (is_at (nat_cmp x)) (filter test es) ≡ sifted_node test x (lookup (is_at (nat_cmp x)) es)
sifted_found test x low [] next ascend = refl
sifted_found test x low (e ∷ es) next ascend =
    sifted_one test x e es next ascend.1 (test e) refl (is_at (nat_cmp x) e.0) refl (sifted_found test x (e.0 + 1) es next ascend.1)

left_key : (among stays : Bool) (e y : ℕ × Node) (node : Node) → cond among (cond stays (Some (e.0, node)) None) (Some e) ≡ Some y → y.0 ≡ e.0
left_key true true e y node is =
    let same : (e.0, node) ≡ y = cc is in
    ap (λ (p : ℕ × Node). p.0) (sym same)
left_key true false e y node is = absurd (cc is)
left_key false stays e y node is =
    let same : e ≡ y = cc is in
    ap (λ (p : ℕ × Node). p.0) (sym same)

pub left_over_key : (below : List ℕ) (without : Tree) (now : ℕ) (e y : ℕ × Node) → left_over without below now e ≡ Some y → y.0 ≡ e.0
left_over_key below without now e y is = left_key (is_among below e.0) (lives without e.0 && not (is_directory e.1.content)) e y (stamped now e.1) is

-- what is found of what a removal leaves
pub left_over_found : (below : List ℕ) (without : Tree) (now x low : ℕ) (es : List (ℕ × Node)) (next : ℕ) → Ascend low (keys_of es) next
    → lookup (is_at (nat_cmp x)) (filter_map (left_over without below now) es) ≡ left_of (left_over without below now) x (lookup (is_at (nat_cmp x)) es)
left_over_found below without now x low es next ascend =
    left_found (left_over without below now) (left_over_key below without now) x low es next ascend

-- and of what it leaves of directories
pub outer_found : (below : List ℕ) (x low : ℕ) (es : List (ℕ × Node)) (next : ℕ) → Ascend low (keys_of es) next
    → lookup (is_at (nat_cmp x)) (filter (λ e. not (is_among below e.0 && is_directory e.1.content)) es)
    ≡ sifted_node (λ e. not (is_among below e.0 && is_directory e.1.content)) x (lookup (is_at (nat_cmp x)) es)
outer_found below x low es next ascend = sifted_found (λ e. not (is_among below e.0 && is_directory e.1.content)) x low es next ascend

-- what a removal leaves of a node: whether it is inside, is held, and is a directory
abbrev pub left_by : Bool → Bool → Bool → ℕ → ℕ → Node → Option Node
left_by among alive folder now x node = option_map (λ (p : ℕ × Node). p.1) (cond among (cond (alive && not folder) (Some (x, stamped now node)) None) (Some (x, node)))

-- what is held and no directory stays, stamped
pub held_part : (among alive folder : Bool) (now x : ℕ) (node : Node) → among ≡ true → alive ≡ true → folder ≡ false → left_by among alive folder now x node ≡ Some (stamped now node)
held_part among alive folder now x node within is file = ap (λ b. left_by b alive folder now x node) within ∙ ap (λ b. left_by true b folder now x node) is ∙ ap (λ b. left_by true true b now x node) file

-- a directory inside goes
pub folder_part : (among alive folder : Bool) (now x : ℕ) (node : Node) → among ≡ true → folder ≡ true → left_by among alive folder now x node ≡ None
folder_part true true true now x node within is = refl
folder_part true false true now x node within is = refl
folder_part among alive false now x node within is = absurd (cc is)
folder_part false alive true now x node within is = absurd (cc within)

-- what nothing holds goes
dead_part : (among alive folder : Bool) (now x : ℕ) (node : Node) → among ≡ true → alive ≡ false → left_by among alive folder now x node ≡ None
dead_part among alive folder now x node within is = ap (λ b. left_by b alive folder now x node) within ∙ ap (λ b. left_by true b folder now x node) is

-- what is outside stays
outside_part : (among alive folder : Bool) (now x : ℕ) (node : Node) → among ≡ false → left_by among alive folder now x node ≡ Some node
outside_part among alive folder now x node out = ap (λ b. left_by b alive folder now x node) out

-- a holder of entries that is left is outside
outer_if : (among folder : Bool) (node : Node) (m : List ℕ) (y : ℕ) → folder ≡ true → entry_in m (cond (not (among && folder)) (Some node) None) ≡ Some y → (among ≡ false) × (entry_of node.content m ≡ Some y)
outer_if true true node m y folder is = absurd (cc is)
outer_if false true node m y folder is = (refl, is)
outer_if among false node m y folder is = absurd (cc folder)

any_if : (among folder : Bool) (node : Node) (m : List ℕ) (y : ℕ) → entry_in m (cond (not (among && folder)) (Some node) None) ≡ Some y → entry_of node.content m ≡ Some y
any_if true true node m y is = absurd (cc is)
any_if true false node m y is = is
any_if false true node m y is = is
any_if false false node m y is = is

-- an entry that is left is in a directory outside
pub outer_entry : (below : List ℕ) (q : ℕ) (m : List ℕ) (y : ℕ) (found : Option Node) → entry_in m (sifted_node (λ e. not (is_among below e.0 && is_directory e.1.content)) q found) ≡ Some y
    → (is_among below q ≡ false) × (entry_in m found ≡ Some y)
outer_entry below q m y None is = absurd (cc is)
outer_entry below q m y (Some node) is =
    outer_if (is_among below q) (is_directory node.content) node m y
    (holds_directory node.content m y (any_if (is_among below q) (is_directory node.content) node m y is)) is

pub outer_stays : (below : List ℕ) (q : ℕ) (found : Option Node) → is_among below q ≡ false → sifted_node (λ e. not (is_among below e.0 && is_directory e.1.content)) q found ≡ found
outer_stays below q None out = refl
outer_stays below q (Some node) out = ap (λ b. cond (not (b && is_directory node.content)) (Some node) None) out

pub none_left : (below : List ℕ) (without : Tree) (now x : ℕ) (found : Option Node) → is_among below x ≡ true → lives without x ≡ false → left_of (left_over without below now) x found ≡ None
none_left below without now x None within dead = refl
none_left below without now x (Some node) within dead = dead_part (is_among below x) (lives without x) (is_directory node.content) now x node within dead

pub outside_left : (below : List ℕ) (without : Tree) (now x : ℕ) (found : Option Node) → is_among below x ≡ false → left_of (left_over without below now) x found ≡ found
outside_left below without now x None out = refl
outside_left below without now x (Some node) out = outside_part (is_among below x) (lives without x) (is_directory node.content) now x node out

-- ---- nodes that are locked

-- what a lock makes of a node
abbrev pub lock_within : Bool → Node → Node
lock_within among node = cond among (record node { locked = true }) node

locked_if : (below : List ℕ) (x : ℕ) (e : ℕ × Node) (found after : Option Node) (among test : Bool) → is_among below e.0 ≡ among → is_at (nat_cmp x) e.0 ≡ test
    → after ≡ option_map (lock_within (is_among below x)) found
    → cond (is_at (nat_cmp x) (cond among (e.0, record e.1 { locked = true }) e).0) (Some (cond among (e.0, record e.1 { locked = true }) e).1) after
    ≡ option_map (lock_within (is_among below x)) (cond test (Some e.1) found)
locked_if below x e found after true true is here same =
    ap (λ b. cond b (Some (record e.1 { locked = true })) after) here ∙ sym (ap (λ b. Some (lock_within b e.1)) (ap (is_among below) (same_number x e.0 here) ∙ is))
locked_if below x e found after false true is here same = ap (λ b. cond b (Some e.1) after) here ∙ sym (ap (λ b. Some (lock_within b e.1)) (ap (is_among below) (same_number x e.0 here) ∙ is))
locked_if below x e found after true false is here same = ap (λ b. cond b (Some (record e.1 { locked = true })) after) here ∙ same
locked_if below x e found after false false is here same = ap (λ b. cond b (Some e.1) after) here ∙ same

-- what is found of nodes of which some are locked
pub locked_found : (below : List ℕ) (x : ℕ) (es : List (ℕ × Node))
    → lookup (is_at (nat_cmp x)) (map (λ e. cond (is_among below e.0) (e.0, record e.1 { locked = true }) e) es) ≡ option_map (lock_within (is_among below x)) (lookup (is_at (nat_cmp x)) es)
locked_found below x [] = refl
locked_found below x (e ∷ es) = locked_if below x e (lookup (is_at (nat_cmp x)) es) _ (is_among below e.0) (is_at (nat_cmp x) e.0) refl refl (locked_found below x es)
