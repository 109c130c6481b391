-- Trees on the way of a removal: entries go one after the other, and the nodes that nothing keeps.
use Rattle.std.proofs.Common.{◌≡◌, ◌≢◌, ◌⊎◌, inl, inr, ℕ, List, true, false, Option, None, Some, refl, sym, ap, ◌∙◌}
use Rattle.std.proofs.lemmas.Bool.{both_ways, cases_eq}
use Rattle.std.specs.Prelude.{option_map}
use Rattle.s3_base.specs.declared.node_kind.Kind.{Kind}
use Rattle.s3_base.specs.declared.node_kind.Kind.TheVariants as kinds
use Rattle.plain_tree.specs.Below.{is_at_or_below}
use Rattle.plain_tree.specs.Entries.{entry_at}
use Rattle.plain_tree.specs.Tree.{Node, Tree, node_at, stamped}
use Rattle.plain_tree.specs.WellFormed.{IsWellFormed}
use Rattle.tree_laws.proofs.Node.Kind.{holds_kind, kind_in, none_some, one_some}
use Rattle.tree_laws.proofs.Shape.Below.{below_shape}
use Rattle.tree_laws.proofs.Shape.Definition.{grown_of}
use Rattle.tree_laws.proofs.Shape.Tree.{shape_of}
use Rattle.tree_laws.proofs.Shape.Words.{Grown, NoneGoes, cases_place, not_there, one_entry}
use Rattle.immutable_trees.proofs.LostEntry.{KeepsNumbers, KeepsNumbers-refl, KeepsNumbers-trans, Loses}

-- ---- what becomes of a node

-- it is gone, as before, or stamped
abbrev pub IsLeft : ℕ → Option Node → Option Node → Type 0
IsLeft now after before = (after ≡ None) ⊎ ((after ≡ before) ⊎ (after ≡ option_map (stamped now) before))

twice_stamped : (now : ℕ) (found : Option Node) → option_map (stamped now) (option_map (stamped now) found) ≡ option_map (stamped now) found
twice_stamped now None = refl
twice_stamped now (Some node) = refl

IsLeft-trans : (now : ℕ) (s t w : Option Node) → IsLeft now s t → IsLeft now t w → IsLeft now s w
IsLeft-trans now s t w first second =
    elim first [
      | inl gone ↦ inl gone
      | inr stays ↦ elim stays [
        | inl same ↦ elim second [
          | inl gone ↦ inl (same ∙ gone)
          | inr more ↦ elim more [ inl alike ↦ inr (inl (same ∙ alike)) | inr marked ↦ inr (inr (same ∙ marked)) ]
        ]
        | inr marked ↦ elim second [
          | inl gone ↦ inl (marked ∙ ap (option_map (stamped now)) gone)
          | inr more ↦ elim more [
            | inl alike ↦ inr (inr (marked ∙ ap (option_map (stamped now)) alike))
            | inr again ↦ inr (inr (marked ∙ ap (option_map (stamped now)) again ∙ twice_stamped now w))
          ]
        ]
      ]
    ]

pub kind_stamped : (now : ℕ) (found : Option Node) → kind_in (option_map (stamped now) found) ≡ kind_in found
kind_stamped now None = refl
kind_stamped now (Some node) = refl

-- ---- entries that go

-- no directory
abbrev pub IsFile : Tree → ℕ → Type 0
IsFile t y = kind_in (node_at t y) ≡ Some kinds.Directory → ⊥

-- What an entry that went named is gone, or is no directory, and stamped.
pub record Shrinks (before t : Tree) (now : ℕ) : Type 0 where
  pub well : IsWellFormed t
  pub numbers : KeepsNumbers before t
  pub fewer : (q y : ℕ) (by : List ℕ) → entry_at t q by ≡ Some y → entry_at before q by ≡ Some y
  pub kind : (y : ℕ) (kind : Kind) → kind_in (node_at t y) ≡ Some kind → kind_in (node_at before y) ≡ Some kind
  pub files : (y : ℕ) → IsFile before y → IsLeft now (node_at t y) (node_at before y)
  pub removed : (q y : ℕ) (by : List ℕ) → entry_at before q by ≡ Some y → entry_at t q by ≡ None
      → (node_at t y ≡ None) ⊎ (IsFile before y × (node_at t y ≡ option_map (stamped now) (node_at before y)))

pub Shrinks-refl : (t : Tree) (now : ℕ) → IsWellFormed t → Shrinks t t now
Shrinks-refl t now well = record {
  well = well;
  numbers = KeepsNumbers-refl t;
  fewer = λ q y by is. is;
  kind = λ y kind is. is;
  files = λ y file. inr (inl refl);
  removed = λ q y by is none. absurd (none_some (entry_at t q by) y none is);
}

-- another entry goes
module _ (before t after : Tree) (m k now p x : ℕ) (name : List ℕ) (shrinks : Shrinks before t now) (names : entry_at t p name ≡ Some x)
    (loses : Loses t after m k now p x name) (well : IsWellFormed after) where
  parent_folder : kind_in (node_at t p) ≡ Some kinds.Directory
  parent_folder = holds_kind (node_at t p) name x names

  still_file : (y : ℕ) → IsFile before y → IsFile t y
  still_file y file folder = file (shrinks.kind y kinds.Directory folder)

  left_as : (y : ℕ) → IsFile t y → IsLeft now (node_at after y) (node_at t y)
  left_as y file =
      elim (cases_eq y p) [
        | inl same ↦ absurd (file (ap (λ z. kind_in (node_at t z)) same ∙ parent_folder))
        | inr not_parent ↦ elim (cases_eq y x) [
          | inl same ↦
              elim loses.child [
                | inl gone ↦ inl (ap (node_at after) same ∙ gone)
                | inr marked ↦ inr (inr (ap (node_at after) same ∙ marked ∙ ap (λ z. option_map (stamped now) (node_at t z)) (sym same)))
              ]
          | inr not_child ↦ inr (inl (loses.others y not_parent not_child))
        ]
      ]

  fewer : (q y : ℕ) (by : List ℕ) → entry_at after q by ≡ Some y → entry_at before q by ≡ Some y
  fewer q y by is =
      elim (cases_place p name q by) [
        | inl place ↦ absurd (not_there (entry_at after) p name q by y place loses.gone is)
        | inr differs ↦ shrinks.fewer q y by (sym (loses.rest q by differs) ∙ is)
      ]

  -- where the node was a file that was stamped, or gone
  marked_again : (y : ℕ) → IsFile before y → node_at t y ≡ option_map (stamped now) (node_at before y)
      → (node_at after y ≡ None) ⊎ (IsFile before y × (node_at after y ≡ option_map (stamped now) (node_at before y)))
  marked_again y file was =
      elim (left_as y (still_file y file)) [
        | inl gone ↦ inl gone
        | inr stays ↦ elim stays [
          | inl same ↦ inr (file, same ∙ was)
          | inr marked ↦ inr (file, marked ∙ ap (option_map (stamped now)) was ∙ twice_stamped now (node_at before y))
        ]
      ]

  gone_again : (y : ℕ) → node_at t y ≡ None → node_at after y ≡ None
  gone_again y none =
      elim (left_as y (λ folder. none_some (kind_in (node_at t y)) kinds.Directory (ap kind_in none) folder)) [
        | inl gone ↦ gone
        | inr stays ↦ elim stays [ inl same ↦ same ∙ none | inr marked ↦ marked ∙ ap (option_map (stamped now)) none ]
      ]

  -- what the entry named
  child_now : (node_at after x ≡ None) ⊎ (IsFile before x × (node_at after x ≡ option_map (stamped now) (node_at before x)))
  child_now = by_child loses.child
    where
      grown : Grown NoneGoes (shape_of t)
      grown = grown_of t shrinks.well.nodes shrinks.well.names shrinks.well.tree shrinks.well.orphans

      there : (kind : Kind) × (kind_in (node_at t x) ≡ Some kind)
      there = grown.there p x name names

      by_child : (node_at after x ≡ None) ⊎ (node_at after x ≡ option_map (stamped now) (node_at t x))
          → (node_at after x ≡ None) ⊎ (IsFile before x × (node_at after x ≡ option_map (stamped now) (node_at before x)))
      by_child child =
          elim child [
            | inl gone ↦ inl gone
            | inr marked ↦
                let file : IsFile before x = λ folder.
                let same : there.0 ≡ kinds.Directory = one_some (kind_in (node_at before x)) there.0 kinds.Directory (shrinks.kind x there.0 there.1) folder in
                let none : node_at after x ≡ None = loses.folder (there.1 ∙ ap Some same) in
                none_some (kind_in (node_at after x)) there.0 (ap kind_in none) (ap kind_in marked ∙ kind_stamped now (node_at t x) ∙ there.1) in
                elim (shrinks.files x file) [
                  | inl gone ↦ inl (marked ∙ ap (option_map (stamped now)) gone)
                  | inr stays ↦ elim stays [
                    | inl same ↦ inr (file, marked ∙ ap (option_map (stamped now)) same)
                    | inr again ↦ inr (file, marked ∙ ap (option_map (stamped now)) again ∙ twice_stamped now (node_at before x))
                  ]
                ]
          ]

  pub Shrinks-more : Shrinks before after now
  Shrinks-more = record {
    well = well;
    numbers = KeepsNumbers-trans before t after shrinks.numbers loses.numbers;
    fewer = fewer;
    kind = λ y kind is. shrinks.kind y kind (loses.kind y kind is);
    files = λ y file. IsLeft-trans now (node_at after y) (node_at t y) (node_at before y) (left_as y (still_file y file)) (shrinks.files y file);
    removed = λ q y by is none.
        elim (cases_place p name q by) [
          | inl place ↦
              let same : y ≡ x = one_entry (entry_at before) p name q by x y place (shrinks.fewer p x name names) is in
              elim child_now [
                | inl gone ↦ inl (ap (node_at after) same ∙ gone)
                | inr marked ↦
                    inr (
                      λ folder. marked.0 (ap (λ z. kind_in (node_at before z)) (sym same) ∙ folder),
                      ap (node_at after) same ∙ marked.1 ∙ ap (λ z. option_map (stamped now) (node_at before z)) (sym same),
                    )
              ]
          | inr differs ↦
              elim (shrinks.removed q y by is (sym (loses.rest q by differs) ∙ none)) [
                | inl gone ↦ inl (gone_again y gone)
                | inr marked ↦ marked_again y marked.0 marked.1
              ]
        ];
  }

-- ---- outside

-- what is not at or below the first directory is as before
pub record LeavesOuter (before t : Tree) (top : ℕ) : Type 0 where
  pub entries : (q : ℕ) (by : List ℕ) → is_at_or_below before top q ≡ false → entry_at t q by ≡ entry_at before q by
  pub nodes : (y : ℕ) → is_at_or_below before top y ≡ false → node_at t y ≡ node_at before y

pub LeavesOuter-refl : (t : Tree) (top : ℕ) → LeavesOuter t t top
LeavesOuter-refl t top = record { entries = λ q by out. refl; nodes = λ y out. refl }

pub LeavesOuter-more : (before t after : Tree) (m k now p x top : ℕ) (name : List ℕ) → IsWellFormed before → Shrinks before t now → LeavesOuter before t top
    → entry_at t p name ≡ Some x → Loses t after m k now p x name → is_at_or_below before top p ≡ true → LeavesOuter before after top
LeavesOuter-more before t after m k now p x top name well shrinks outer names loses inside =
    let apart : (y : ℕ) → is_at_or_below before top y ≡ false → y ≢ p =
    λ y out same. both_ways (is_at_or_below before top y) out (ap (is_at_or_below before top) same ∙ inside) in
    let inside_too : is_at_or_below before top x ≡ true = (below_shape before well.names top).down p x name inside (shrinks.fewer p x name names) in
    record {
      entries = λ q by out. loses.rest q by (λ place. apart q out place.0) ∙ outer.entries q by out;
      nodes = λ y out.
          loses.others y (apart y out) (λ same. both_ways (is_at_or_below before top y) out (ap (is_at_or_below before top) same ∙ inside_too)) ∙ outer.nodes y out;
    }
