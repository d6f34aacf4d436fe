-- What an end gave: the ends of its transmissions, each with its number and its body.
pub mod GivenEnds
-- Over a whole run: the ends of transmissions that arrive, and those on their way, stand among those that were given, in their order.
pub mod WholeRun
