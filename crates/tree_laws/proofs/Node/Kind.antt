-- The kinds and entries of nodes that are found, and what the checks say of them.
use Rattle.std.proofs.Common.{◌≡◌, ◌≤◌, ℕ, List, [], ◌∷◌, Bool, true, false, Option, None, Some, IsSome, refl, sym, ap, ◌∙◌, arith}
use Rattle.std.proofs.lemmas.Bool.{both_ways, ltb-false}
use Rattle.std.proofs.lemmas.Map.Made.{lookup-map_values}
use Rattle.std.specs.BTreeMap.{is_at}
use Rattle.std.specs.Cmp.Lexicographic.{slice_cmp}
use Rattle.std.specs.Map.{lookup}
use Rattle.std.specs.Option.{option_map}
use Rattle.std.specs.Ordering.{nat_cmp}
use Rattle.std.specs.Prelude.{length, is_some, option_and_then}
use Rattle.s3_base.specs.declared.node_kind.Kind.{Kind}
use Rattle.s3_base.specs.declared.node_kind.Kind.TheVariants as kinds
use Rattle.plain_tree.specs.Attributes.{kind_of}
use Rattle.plain_tree.specs.Checks.{entry_check, node_check, directory_check, file_check, free_check, no_directory_check, empty_check, open_check}
use Rattle.plain_tree.specs.Entries.{entries_of, is_directory, is_folder}
use Rattle.plain_tree.specs.Files.{with_bytes}
use Rattle.plain_tree.specs.Subtrees.{copied_content, copy_number}
use Rattle.plain_tree.specs.Tree.{Content, Regular, Directory, Link, Node, entry_of}
use Rattle.plain_tree.specs.WellFormed.{is_file}
use Rattle.tree_laws.proofs.Walk.Passed.{not_failed}

-- ---- what is found

-- the kind of a node that is found
abbrev pub kind_in : Option Node → Option Kind
kind_in None = None
kind_in (Some node) = Some (kind_of node.content)

-- the inode that an entry of a node that is found names
abbrev pub entry_in : List ℕ → Option Node → Option ℕ
entry_in name found = option_and_then (λ (node : Node). entry_of node.content name) found

pub none_some : {X : Type 0} (found : Option X) (x : X) → found ≡ None → found ≡ Some x → ⊥
none_some found x none is =
    let both_ways : None ≡ Some x = sym none ∙ is in
    cc both_ways

-- what is never something is nothing
pub none_from : {X : Type 0} (found : Option X) → ((x : X) → found ≡ Some x → ⊥) → found ≡ None
none_from None never = refl
none_from (Some x) never = absurd (never x refl)

pub one_some : {X : Type 0} (found : Option X) (x y : X) → found ≡ Some x → found ≡ Some y → x ≡ y
one_some found x y first second =
    let both : Some x ≡ Some y = sym first ∙ second in
    cc both

pub file_no_folder : (found : Option Kind) → found ≡ Some kinds.Regular → found ≡ Some kinds.Directory → ⊥
file_no_folder found file folder =
    let same : kinds.Regular ≡ kinds.Directory = one_some found kinds.Regular kinds.Directory file folder in
    cc same

pub some_node : (found : Option Node) → IsSome found → (node : Node) × (found ≡ Some node)
some_node None is = absurd (cc is)
some_node (Some node) is = (node, refl)

pub kind_some : (found : Option Node) (k : Kind) → kind_in found ≡ Some k → (node : Node) × (found ≡ Some node) × (kind_of node.content ≡ k)
kind_some None k is = absurd (cc is)
kind_some (Some node) k is =
    let same : kind_of node.content ≡ k = cc is in
    (node, refl, same)

pub entry_some : (m : List ℕ) (y : ℕ) (found : Option Node) → entry_in m found ≡ Some y → (node : Node) × (found ≡ Some node) × (entry_of node.content m ≡ Some y)
entry_some m y None is = absurd (cc is)
entry_some m y (Some node) is = (node, refl, is)

pub some_kind : (found : Option Node) → IsSome found → (k : Kind) × (kind_in found ≡ Some k)
some_kind found is =
    let node = some_node found is in
    (kind_of node.0.content, ap kind_in node.1)

pub kind_there : (found : Option Node) (k : Kind) → kind_in found ≡ Some k → IsSome found
kind_there None k is = absurd (cc is)
kind_there (Some node) k is = refl

-- ---- directories and files

pub directory_kind : (content : Content) → is_directory content ≡ true → kind_of content ≡ kinds.Directory
directory_kind (Directory entries) is = refl
directory_kind (Regular bytes) is = absurd (cc is)
directory_kind (Link target) is = absurd (cc is)

pub kind_directory : (content : Content) → kind_of content ≡ kinds.Directory → is_directory content ≡ true
kind_directory (Directory entries) is = refl
kind_directory (Regular bytes) is = absurd (cc is)
kind_directory (Link target) is = absurd (cc is)

pub folder_kind : (found : Option Node) → is_folder found ≡ true → kind_in found ≡ Some kinds.Directory
folder_kind None is = absurd (cc is)
folder_kind (Some node) is = ap Some (directory_kind node.content is)

pub is_a_folder : (found : Option Node) → kind_in found ≡ Some kinds.Directory → is_folder found ≡ true
is_a_folder found is =
    let node = kind_some found kinds.Directory is in
    ap is_folder node.1 ∙ kind_directory node.0.content node.2

pub folder_entries : (content : Content) → kind_of content ≡ kinds.Directory → (entries : List (List ℕ × ℕ)) × (content ≡ Directory entries)
folder_entries (Directory entries) is = (entries, refl)
folder_entries (Regular bytes) is = absurd (cc is)
folder_entries (Link target) is = absurd (cc is)

file_content : (content : Content) → elim content as (λ _. Bool) [ Regular bytes ↦ true | Directory entries ↦ false | Link target ↦ false ] ≡ true → kind_of content ≡ kinds.Regular
file_content (Regular bytes) is = refl
file_content (Directory entries) is = absurd (cc is)
file_content (Link target) is = absurd (cc is)

pub file_kind : (found : Option Node) → is_file found ≡ true → kind_in found ≡ Some kinds.Regular
file_kind None is = absurd (cc is)
file_kind (Some node) is = ap Some (file_content node.content is)

regular_content : (content : Content) → kind_of content ≡ kinds.Regular
    → elim content as (λ _. Bool) [ Regular bytes ↦ true | Directory entries ↦ false | Link target ↦ false ] ≡ true
regular_content (Regular bytes) is = refl
regular_content (Directory entries) is = absurd (cc is)
regular_content (Link target) is = absurd (cc is)

pub is_a_file : (found : Option Node) → kind_in found ≡ Some kinds.Regular → is_file found ≡ true
is_a_file found is =
    let node = kind_some found kinds.Regular is in
    ap is_file node.1 ∙ regular_content node.0.content node.2

-- ---- entries

-- what has an entry is a directory
pub holds_directory : (content : Content) (m : List ℕ) (y : ℕ) → entry_of content m ≡ Some y → is_directory content ≡ true
holds_directory (Directory entries) m y is = refl
holds_directory (Regular bytes) m y is = absurd (cc is)
holds_directory (Link target) m y is = absurd (cc is)

pub holds_kind : (found : Option Node) (m : List ℕ) (y : ℕ) → entry_in m found ≡ Some y → kind_in found ≡ Some kinds.Directory
holds_kind found m y is =
    let node = entry_some m y found is in
    ap kind_in node.1 ∙ ap Some (directory_kind node.0.content (holds_directory node.0.content m y node.2))

-- an entry is what a look-up among the entries finds
pub entry_lookup : (name : List ℕ) (content : Content) → entry_of content name ≡ lookup (is_at (slice_cmp nat_cmp name)) (entries_of content)
entry_lookup name (Directory entries) = refl
entry_lookup name (Regular bytes) = refl
entry_lookup name (Link target) = refl

pub kind_bytes : (f : List ℕ → List ℕ) (content : Content) → kind_of (with_bytes f content) ≡ kind_of content
kind_bytes f (Regular bytes) = refl
kind_bytes f (Directory entries) = refl
kind_bytes f (Link target) = refl

pub entry_bytes : (f : List ℕ → List ℕ) (name : List ℕ) (content : Content) → entry_of (with_bytes f content) name ≡ entry_of content name
entry_bytes f name (Regular bytes) = refl
entry_bytes f name (Directory entries) = refl
entry_bytes f name (Link target) = refl

pub kind_copied : (next : ℕ) (order : List ℕ) (content : Content) → kind_of (copied_content next order content) ≡ kind_of content
kind_copied next order (Directory entries) = refl
kind_copied next order (Regular bytes) = refl
kind_copied next order (Link target) = refl

pub entry_copied : (next : ℕ) (order : List ℕ) (content : Content) (m : List ℕ) → entry_of (copied_content next order content) m ≡ option_map (copy_number next order) (entry_of content m)
entry_copied next order (Directory entries) m = lookup-map_values (copy_number next order) (is_at (slice_cmp nat_cmp m)) entries
entry_copied next order (Regular bytes) m = refl
entry_copied next order (Link target) m = refl

-- ---- what the checks say

folder_content : (content : Content) → elim content as (λ _. Option ℕ) [ Directory entries ↦ None | Regular bytes ↦ Some 20 | Link target ↦ Some 20 ] ≡ None → kind_of content ≡ kinds.Directory
folder_content (Directory entries) is = refl
folder_content (Regular bytes) is = absurd (cc is)
folder_content (Link target) is = absurd (cc is)

pub folder_is : (found : Option Node) → node_check found ≡ None → directory_check found ≡ None → kind_in found ≡ Some kinds.Directory
folder_is None there is = absurd (cc there)
folder_is (Some node) there is = ap Some (folder_content node.content is)

-- the same of a node that is there
pub folder_of : (found : Option Node) (k : Kind) → kind_in found ≡ Some k → directory_check found ≡ None → kind_in found ≡ Some kinds.Directory
folder_of found k there is =
    let node = kind_some found k there in
    folder_is found (ap node_check node.1) is

regular_bytes : (content : Content) → elim content as (λ _. Option ℕ) [ Regular bytes ↦ None | Directory entries ↦ Some 21 | Link target ↦ Some 22 ] ≡ None
    → (old : List ℕ) × (content ≡ Regular old)
regular_bytes (Regular bytes) is = (bytes, refl)
regular_bytes (Directory entries) is = absurd (cc is)
regular_bytes (Link target) is = absurd (cc is)

pub file_of : (found : Option Node) → node_check found ≡ None → file_check found ≡ None → (node : Node) × (old : List ℕ) × (found ≡ Some node) × (node.content ≡ Regular old)
file_of None there file = absurd (cc there)
file_of (Some node) there file =
    let content = regular_bytes node.content file in
    (node, content.0, refl, content.1)

pub opened_file : (found : Option (List ℕ)) → open_check found ≡ None → (old : List ℕ) × (found ≡ Some old)
opened_file None is = absurd (cc is)
opened_file (Some old) is = (old, refl)

-- the entry is there
pub entry_there : (found : Option ℕ) → entry_check found ≡ None → (x : ℕ) × (found ≡ Some x)
entry_there None there = absurd (cc there)
entry_there (Some x) there = (x, refl)

pub node_there : (found : Option Node) → node_check found ≡ None → (node : Node) × (found ≡ Some node)
node_there None there = absurd (cc there)
node_there (Some node) there = (node, refl)

no_some : (found : Option ℕ) → is_some found ≡ false → found ≡ None
no_some None is = refl
no_some (Some y) is = absurd (cc is)

pub free_is : (found : Option Node) (n : List ℕ) → free_check found n ≡ None → entry_in n found ≡ None
free_is None n is = refl
free_is (Some node) n is = no_some (entry_of node.content n) (not_failed 17 _ is)

pub no_folder_is : (errno : ℕ) (found : Option Node) → no_directory_check errno found ≡ None → kind_in found ≡ Some kinds.Directory → ⊥
no_folder_is errno None is folder = absurd (cc folder)
no_folder_is errno (Some node) is folder =
    let same : kind_of node.content ≡ kinds.Directory = cc folder in
    both_ways (is_directory node.content) (not_failed errno _ is) (kind_directory node.content same)

no_entry : (entries : List (List ℕ × ℕ)) (m : List ℕ) → length entries ≤ 0 → lookup (is_at (slice_cmp nat_cmp m)) entries ≡ None
no_entry [] m short = refl
no_entry (e ∷ entries) m short = absurd (omega (arith, short))

pub empty_is : (found : Option Node) → empty_check found ≡ None → (m : List ℕ) → entry_in m found ≡ None
empty_is None is m = refl
empty_is (Some node) is m = entry_lookup m node.content ∙ no_entry (entries_of node.content) m (ltb-false 0 (length (entries_of node.content)) (not_failed 39 _ is))
