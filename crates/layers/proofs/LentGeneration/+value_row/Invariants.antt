-- `layers::LentGeneration::value_row` goes down to a lower layer.
use Rattle.layers.proofs.LentGeneration.+value_row.Given as goal

abbrev pub decreases-value_row : goal.decreases-value_row
decreases-value_row l = l.k
