-- What lists of turns keep: a push that was asked 33 before its turn is a start like any other (EarlyPush), and Anchor's tag has room for it (TagRoom).
pub mod EarlyPush
pub mod TagRoom
pub mod Append
