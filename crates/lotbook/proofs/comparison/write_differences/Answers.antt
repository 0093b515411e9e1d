use Rattle.lotbook.proofs.comparison.write_differences.Goals as goal

pub returns-clause-told : goal.returns-clause-told
returns-clause-told g c = record { before = _; written = _; tells = c.write_beside-status.ensures.told }

pub returns-clause-ends : goal.returns-clause-ends
returns-clause-ends g c = c.write_beside-status.ensures.ends

pub returns-clause-new_left : goal.returns-clause-new_left
returns-clause-new_left g c = c.write_beside-status.ensures.new_left

pub returns-clause-old_left : goal.returns-clause-old_left
returns-clause-old_left g c = c.write_beside-status.ensures.old_left
