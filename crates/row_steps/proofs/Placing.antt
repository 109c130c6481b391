-- An inode whose link is owed gets an entry under a name that is there: the directory is touched, and the inode stamped.
use Rattle.std.proofs.Common.{◌≡◌, ℕ, List, ◌∷◌, Bool, true, false, cond, Option, None, Some, refl, sym, ap, ◌∙◌, subst}
use Rattle.std.specs.Prelude.{IsTrue, ◌==◌, is_some, nat_lt}
use Rattle.std.specs.List.{list_any}
use Rattle.std.specs.Cmp.{nat_cmp_total}
use Rattle.std.proofs.lemmas.Bool.{and_from}
use Rattle.s3_base.specs.Numbers.{root}
use Rattle.s3_base.specs.declared.node_kind.Kind.TheVariants as kinds
use Rattle.plain_tree.specs.Tree.{Tree, change_node, stamped}
use Rattle.plain_tree.specs.Entries.{add_entry}
use Rattle.s3_rows.specs.Rows.{Inode, Content, Parameters}
use Rattle.s3_rows.specs.Keyed.{has_key, put, row_at}
use Rattle.s3_rows.specs.Tables.{Tables, by_entry, by_inode}
use Rattle.s3_rows.specs.Selections.{inode_at, name_at, bytes_of_name}
use Rattle.s3_rows.specs.Validity.{has_inode, is_directory}
use Rattle.row_lemmas.proofs.Tests.{is_eq-nat_cmp}
use Rattle.row_lemmas.proofs.Keyed.Put.{row_at-put, row_at-put_other}
use Rattle.tree_rows.specs.Shapes.{Represents}
use Rattle.tree_rows.proofs.Listed.{is_entry}
use Rattle.tree_rows.proofs.Replaced.{replaced_represents}
use Rattle.row_steps.specs.Owed.{Owes}
use Rattle.row_steps.specs.RowChanges.{stamped_row, touched_row}
use Rattle.row_steps.proofs.Owed.Contents.{Owes-put_content}
use Rattle.row_steps.proofs.Owed.Inodes.{Owes-put_inode_same, below_from_there, one_number}
use Rattle.row_steps.proofs.Shape.Entries.{Represents-put_content}

-- what is found of a directory after another one, or itself, is touched: touched again it is as if it alone had been
pub record IsTouchedRow (rows : List Inode) (e : Inode) (now : ℕ) : Type 0 where
  pub row : Inode
  pub there : row_at by_inode row.id rows ≡ Some row
  pub id : row.id ≡ e.id
  pub kind : row.kind ≡ e.kind
  pub again : touched_row now row ≡ touched_row now e

pub IsTouchedRow-put : (rows : List Inode) (d e : Inode) (now : ℕ) → row_at by_inode d.id rows ≡ Some d → row_at by_inode e.id rows ≡ Some e
    → IsTouchedRow (put by_inode (touched_row now d) rows) e now
IsTouchedRow-put rows d e now there other = by_case (has_key by_inode e.id (touched_row now d)) refl
  where
    found : row_at by_inode e.id (put by_inode (touched_row now d) rows) ≡ cond (has_key by_inode e.id (touched_row now d)) (Some (touched_row now d)) (row_at by_inode e.id rows)
    found = row_at-put by_inode nat_cmp_total e.id (touched_row now d) rows

    by_case : (b : Bool) → has_key by_inode e.id (touched_row now d) ≡ b → IsTouchedRow (put by_inode (touched_row now d) rows) e now
    by_case true is =
        let number : e.id ≡ d.id = one_number e.id d.id is in
        let both : Some d ≡ Some e = sym there ∙ ap (λ k. row_at by_inode k rows) (sym number) ∙ other in
        let same : d ≡ e = cc both in
        record {
          row = touched_row now d;
          there =
              ap (λ k. row_at by_inode k (put by_inode (touched_row now d) rows)) (sym number) ∙ found
              ∙ ap (λ b. cond b (Some (touched_row now d)) (row_at by_inode e.id rows)) is;
          id = ap (λ (x : Inode). x.id) same;
          kind = ap (λ (x : Inode). x.kind) same;
          again = ap (touched_row now) same;
        }
    by_case false is = record {
      row = e;
      there = found ∙ ap (λ b. cond b (Some (touched_row now d)) (row_at by_inode e.id rows)) is ∙ other;
      id = refl;
      kind = refl;
      again = refl;
    }

-- what is needed of the tables, the directory, the name and the inode
pub record IsPlacing (u : Tables) (whole : Tree) (q : Parameters) (e r : Inode) (m : ℕ) (name : List ℕ) (links uses : List ℕ) : Type 0 where
  pub owes : Owes u q (r.id ∷ links) (m ∷ uses)
  pub same : Represents u whole
  pub named : IsTrue (is_some (name_at u m))
  pub bytes : bytes_of_name u m ≡ name
  pub there : inode_at u e.id ≡ Some e
  pub kind : e.kind ≡ kinds.Directory
  pub free : list_any (is_entry u e.id name) u.contents ≡ false
  pub child : inode_at u r.id ≡ Some r
  pub apart : (r.id == e.id) ≡ false
  pub not_root : (r.id == root) ≡ false

module _ (u : Tables) (whole : Tree) (q : Parameters) (e r : Inode) (m now : ℕ) (name links uses : List ℕ) (is : IsPlacing u whole q e r m name links uses) where
  abbrev pub placed_entry : Content
  placed_entry = record { parent = e.id; name_id = m; inode = r.id }

  abbrev put_in : Tables
  put_in = record u { contents = put by_entry placed_entry u.contents; inodes = put by_inode (touched_row now e) u.inodes }

  abbrev pub placed : Tables
  placed = record put_in { inodes = put by_inode (stamped_row now r) (put by_inode (touched_row now e) u.inodes) }

  pub free_bytes : list_any (is_entry u e.id (bytes_of_name u m)) u.contents ≡ false
  free_bytes = ap (λ text. list_any (is_entry u e.id text) u.contents) is.bytes ∙ is.free

  number : IsTrue (nat_lt r.id q.next_inode)
  number =
      below_from_there u q.next_inode is.owes.numbers r.id (λ kind size. true)
      (ap (λ (found : Option Inode). elim found [ Some x ↦ true | None ↦ false ]) is.child)

  owes_put : Owes put_in q links uses
  owes_put =
      Owes-put_inode_same (record u { contents = put by_entry placed_entry u.contents }) q e (touched_row now e) links uses
      (Owes-put_content u placed_entry free_bytes q links uses is.owes
      (and_from (has_inode is_directory u e.id) (is_some (name_at u m))
      (ap (λ (found : Option Inode). elim found [ Some x ↦ is_directory x.kind | None ↦ false ]) is.there ∙ ap is_directory is.kind) is.named)
      is.not_root number)
      is.there refl refl refl

  still : inode_at put_in r.id ≡ Some r
  still = row_at-put_other by_inode nat_cmp_total r.id (touched_row now e) u.inodes (is_eq-nat_cmp r.id e.id ∙ is.apart) ∙ is.child

  pub Owes-placed : Owes placed q links uses
  Owes-placed = Owes-put_inode_same put_in q r (stamped_row now r) links uses owes_put still refl refl refl

  pub Represents-placed : Represents placed (change_node r.id (stamped now) (add_entry e.id name r.id now whole))
  Represents-placed =
      let put_there : Represents put_in (add_entry e.id (bytes_of_name u m) r.id now whole) =
      Represents-put_content u placed_entry is.named free_bytes whole e now is.owes.ordered.inodes is.same refl is.there is.kind in
      replaced_represents put_in (add_entry e.id name r.id now whole) r (stamped_row now r) (stamped now) owes_put.ordered.inodes
      (subst (λ (text : List ℕ). Represents put_in (add_entry e.id text r.id now whole)) is.bytes put_there) still
      (λ node shape i. record (shape i) { ctime = now })
