use Rattle.op_checks.proofs.Nodes.{node_check-row, directory_check-row, file_check-row, link_check-row, no_directory_check-row, lock_check-row, open_check-row, ids_check-row, named_check-row, free_check-row}
use Rattle.tree_rows.proofs.NamedAttrs.{attribute_at-row}
use Rattle.op_checks.proofs.laws.row_checks_are_checks.Goals as goal

pub returns-clause-node : goal.returns-clause-node
returns-clause-node c t whole x same = node_check-row t whole same x

pub returns-clause-directory : goal.returns-clause-directory
returns-clause-directory c t whole x same = directory_check-row t whole same x

pub returns-clause-file : goal.returns-clause-file
returns-clause-file c t whole x same = file_check-row t whole same x

pub returns-clause-link : goal.returns-clause-link
returns-clause-link c t whole x same = link_check-row t whole same x

pub returns-clause-no_directory : goal.returns-clause-no_directory
returns-clause-no_directory c t whole x errno same = no_directory_check-row t whole same x errno

pub returns-clause-lock : goal.returns-clause-lock
returns-clause-lock c t whole x same = lock_check-row t whole same x

pub returns-clause-open : goal.returns-clause-open
returns-clause-open c t whole x same = open_check-row t whole same x

pub returns-clause-named : goal.returns-clause-named
returns-clause-named c t whole x v same = named_check-row t whole v same x

pub returns-clause-free : goal.returns-clause-free
returns-clause-free c t whole x name v same = free_check-row t whole v same x name

pub returns-clause-ids : goal.returns-clause-ids
returns-clause-ids c t whole p count same set = ids_check-row t whole p count same set

pub returns-clause-attribute : goal.returns-clause-attribute
returns-clause-attribute c t whole x name v unique same = attribute_at-row t unique v.ordered.names v.ordered.attrs v.rows.attrs whole same x name
