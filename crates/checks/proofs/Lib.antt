-- The laws of a ld or st and of an mma.
pub mod AccessLaws
pub mod MmaLaws
