-- `layers::LentGeneration::highest` goes down a layer.
use Rattle.layers.proofs.LentGeneration.+highest.Given as goal

abbrev pub decreases-highest : goal.decreases-highest
decreases-highest l = l.k
