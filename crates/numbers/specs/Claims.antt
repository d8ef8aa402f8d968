-- A contract states facts of the smallest universe alone, and a statement about every kind of number is larger: so a contract cites such a statement together with its proof.

-- the statement A holds: a is its proof
pub record Proved (A : Type 1) (a : A) : Type 0 where
