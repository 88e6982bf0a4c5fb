use Rattle.bplus_tree.proofs.tree.put.Goals as goal

pub returns-clause-rows : goal.returns-clause-rows
returns-clause-rows g c = rw c.bytes.ensures.value at c.put_row.ensures.rows

pub returns-clause-again : goal.returns-clause-again
returns-clause-again g c = rw c.bytes.ensures.value at c.put_row.ensures.again

pub returns-clause-lines : goal.returns-clause-lines
returns-clause-lines g c = rw c.bytes.ensures.value at c.put_row.ensures.lines

pub returns-clause-same_root : goal.returns-clause-same_root
returns-clause-same_root g c = rw c.bytes.ensures.value at c.put_row.ensures.same_root

pub returns-clause-sound : goal.returns-clause-sound
returns-clause-sound g c = rw c.bytes.ensures.value at c.put_row.ensures.sound

pub returns-clause-needed : goal.returns-clause-needed
returns-clause-needed g c = rw c.bytes.ensures.value at c.put_row.ensures.needed

pub returns-clause-by_lines : goal.returns-clause-by_lines
returns-clause-by_lines g c = rw c.bytes.ensures.value at c.put_row.ensures.by_lines

pub returns-clause-pages : goal.returns-clause-pages
returns-clause-pages g c = rw c.bytes.ensures.value at c.put_row.ensures.pages
