use Rattle.std.proofs.Common.{◌^◌, refl}
use Rattle.dict.proofs.SparseSums.{coefficient_at, term_within}
use Rattle.lex_simplex.proofs.enter.term_of.Goals as goal

pub returns-clause-within : goal.returns-clause-within
returns-clause-within c = (term_within (2 ^ 63) 0 c.args.places c.args.entries.now c.args.i _ c.requires.i refl c.requires.terms).1

pub returns-clause-value : goal.returns-clause-value
returns-clause-value c = coefficient_at (2 ^ 63) 0 c.args.places c.args.entries.now c.args.i _ c.requires.i refl c.requires.terms

pub returns-clause-narrow : goal.returns-clause-narrow
returns-clause-narrow c = (term_within (2 ^ 63) 0 c.args.places c.args.entries.now c.args.i _ c.requires.i refl c.requires.terms).2
