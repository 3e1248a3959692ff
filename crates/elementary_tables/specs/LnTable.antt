-- The tables of ln, by their bit patterns.
use Rattle.std.specs.Prelude.{ℕ, min, List, [], ◌∷◌, get_or}
use Rattle.elementary_tables.specs.declared.ln_table.LnRow.{LnRow}
use Rattle.float.specs.Ops.{bits}

-- an inverse 1/c for each of the 128 parts of the numbers from 1 to 2, c near the middle of its part
abbrev pub inverses : List ℕ
inverses =
    0x3fef_e01f_f726_fa1a ∷ 0x3fef_a11c_c261_ea74 ∷ 0x3fef_6310_b081_992e ∷ 0x3fef_25f6_3cee_adcd ∷
    0x3fee_e9c8_0391_13e7 ∷ 0x3fee_ae80_78cb_b1ab ∷ 0x3fee_741a_a29d_0c9b ∷ 0x3fee_3a91_830a_99b5 ∷
    0x3fee_01e0_0960_9a56 ∷ 0x3fed_ca01_e577_bb98 ∷ 0x3fed_92f2_0b7c_9103 ∷ 0x3fed_5cac_66fb_5cce ∷
    0x3fed_272c_aa5e_de9d ∷ 0x3fec_f26e_3e6b_2ccd ∷ 0x3fec_be6d_a2a7_7902 ∷ 0x3fec_8b26_6d37_086d ∷
    0x3fec_5894_bd5d_5804 ∷ 0x3fec_26b5_33bb_9f8c ∷ 0x3feb_f583_eeec_e73f ∷ 0x3feb_c4fd_75db_96c1 ∷
    0x3feb_951e_0c86_4a28 ∷ 0x3feb_65e2_c5ef_3e2c ∷ 0x3feb_3748_67c9_888b ∷ 0x3feb_094b_211d_304a ∷
    0x3fea_dbe8_85f2_ef7e ∷ 0x3fea_af1d_3160_3da2 ∷ 0x3fea_82e6_3fd3_58a7 ∷ 0x3fea_5740_ef09_738b ∷
    0x3fea_2c2a_90ab_4b27 ∷ 0x3fea_01a0_1393_f2d1 ∷ 0x3fe9_d79f_24db_3c1b ∷ 0x3fe9_ae25_05c7_b190 ∷
    0x3fe9_852e_f297_ce2f ∷ 0x3fe9_5cba_eea4_4b75 ∷ 0x3fe9_34c6_9de7_4838 ∷ 0x3fe9_0d4f_2f67_52e6 ∷
    0x3fe8_e652_8eff_d79d ∷ 0x3fe8_bfce_9fcc_007c ∷ 0x3fe8_99c0_dabe_c30e ∷ 0x3fe8_7427_aa23_17fb ∷
    0x3fe8_4f00_acb3_9a08 ∷ 0x3fe8_2a49_e865_3e55 ∷ 0x3fe8_0601_95f4_0260 ∷ 0x3fe7_e225_63e0_a329 ∷
    0x3fe7_beb3_77dc_b5ad ∷ 0x3fe7_9baa_6797_25c2 ∷ 0x3fe7_7907_f217_0657 ∷ 0x3fe7_56ca_dbd6_130c ∷
    0x3fe7_34f0_c3e0_de9f ∷ 0x3fe7_1378_6a2c_e91f ∷ 0x3fe6_f260_08fa_b5a0 ∷ 0x3fe6_d1a6_1f13_8c7d ∷
    0x3fe6_b149_0bc5_b4d1 ∷ 0x3fe6_9147_332f_0cba ∷ 0x3fe6_719f_1822_4223 ∷ 0x3fe6_524f_99a5_1ed9 ∷
    0x3fe6_3356_aa8f_24c4 ∷ 0x3fe6_14b3_6b9d_dc14 ∷ 0x3fe5_f664_52c6_5c4c ∷ 0x3fe5_d867_b591_2c4f ∷
    0x3fe5_babc_cb5b_90de ∷ 0x3fe5_9d61_f2d9_1a78 ∷ 0x3fe5_8056_1246_5687 ∷ 0x3fe5_6397_cee7_6bd3 ∷
    0x3fe5_4725_e2a7_7f93 ∷ 0x3fe5_2aff_4206_4583 ∷ 0x3fe5_0f22_dbb2_bddf ∷ 0x3fe4_f38f_4734_ded7 ∷
    0x3fe4_d843_cfde_2840 ∷ 0x3fe4_bd3e_c078_a3c8 ∷ 0x3fe4_a27f_c3e0_258a ∷ 0x3fe4_8805_24d4_8434 ∷
    0x3fe4_6dce_1b19_2d0b ∷ 0x3fe4_53d9_d339_1854 ∷ 0x3fe4_3a27_44b4_845a ∷ 0x3fe4_20b5_4115_f8fb ∷
    0x3fe4_0782_da3e_f4b1 ∷ 0x3fe3_ee8f_5d57_fe8f ∷ 0x3fe3_d5d9_a00b_4ce9 ∷ 0x3fe3_bd60_c010_c12b ∷
    0x3fe3_a524_2b75_dab8 ∷ 0x3fe3_8d22_cd9f_d002 ∷ 0x3fe3_755b_c584_7a1c ∷ 0x3fe3_5dce_49ad_36e2 ∷
    0x3fe3_4679_984d_d440 ∷ 0x3fe3_2f5c_ceff_cb24 ∷ 0x3fe3_1877_75a1_0d49 ∷ 0x3fe3_01c8_373e_3990 ∷
    0x3fe2_eb4e_bb95_f841 ∷ 0x3fe2_d50a_0219_a9d1 ∷ 0x3fe2_bef9_a8b7_fd2a ∷ 0x3fe2_a91c_7a0c_1bab ∷
    0x3fe2_9372_6014_b530 ∷ 0x3fe2_7dfa_5757_a1f5 ∷ 0x3fe2_68b3_9b1d_3bbf ∷ 0x3fe2_539d_838f_f5bd ∷
    0x3fe2_3eb7_aac9_083b ∷ 0x3fe2_2a01_2ba9_40b6 ∷ 0x3fe2_1579_96cc_4132 ∷ 0x3fe2_0120_1dd2_fc9b ∷
    0x3fe1_ecf4_494d_480b ∷ 0x3fe1_d8f5_528f_6569 ∷ 0x3fe1_c523_1157_7e7c ∷ 0x3fe1_b17c_74cb_26e9 ∷
    0x3fe1_9e01_0c2c_1ab6 ∷ 0x3fe1_8ab0_7bb6_70bd ∷ 0x3fe1_778a_25ef_bcb6 ∷ 0x3fe1_648d_354c_31da ∷
    0x3fe1_51b9_9027_5fdd ∷ 0x3fe1_3f0e_a432_d24c ∷ 0x3fe1_2c8b_7210_f9da ∷ 0x3fe1_1a30_28ec_b531 ∷
    0x3fe1_07fb_da84_34af ∷ 0x3fe0_f5ee_0f4e_6bb3 ∷ 0x3fe0_e406_5d2a_9fce ∷ 0x3fe0_d244_632c_a521 ∷
    0x3fe0_c0a7_7ce2_981a ∷ 0x3fe0_af2f_83c6_36d1 ∷ 0x3fe0_9ddb_98a0_1339 ∷ 0x3fe0_8cab_af52_e7df ∷
    0x3fe0_7b9f_2f4e_28fb ∷ 0x3fe0_6ab5_8c35_8f19 ∷ 0x3fe0_59ee_a5ec_f92c ∷ 0x3fe0_4949_cdd1_2c90 ∷
    0x3fe0_38c6_c6f0_ada9 ∷ 0x3fe0_2865_1379_32a9 ∷ 0x3fe0_1824_27ea_7348 ∷ 0x3fe0_0804_0614_b195 ∷ []

-- the leading 9 digits of each inverse
abbrev pub inverse_heads : List ℕ
inverse_heads =
    0x3fef_e000_0000_0000 ∷ 0x3fef_a000_0000_0000 ∷ 0x3fef_6000_0000_0000 ∷ 0x3fef_2000_0000_0000 ∷
    0x3fee_f000_0000_0000 ∷ 0x3fee_b000_0000_0000 ∷ 0x3fee_7000_0000_0000 ∷ 0x3fee_4000_0000_0000 ∷
    0x3fee_0000_0000_0000 ∷ 0x3fed_d000_0000_0000 ∷ 0x3fed_9000_0000_0000 ∷ 0x3fed_6000_0000_0000 ∷
    0x3fed_2000_0000_0000 ∷ 0x3fec_f000_0000_0000 ∷ 0x3fec_c000_0000_0000 ∷ 0x3fec_9000_0000_0000 ∷
    0x3fec_6000_0000_0000 ∷ 0x3fec_2000_0000_0000 ∷ 0x3feb_f000_0000_0000 ∷ 0x3feb_c000_0000_0000 ∷
    0x3feb_9000_0000_0000 ∷ 0x3feb_6000_0000_0000 ∷ 0x3feb_3000_0000_0000 ∷ 0x3feb_1000_0000_0000 ∷
    0x3fea_e000_0000_0000 ∷ 0x3fea_b000_0000_0000 ∷ 0x3fea_8000_0000_0000 ∷ 0x3fea_5000_0000_0000 ∷
    0x3fea_3000_0000_0000 ∷ 0x3fea_0000_0000_0000 ∷ 0x3fe9_d000_0000_0000 ∷ 0x3fe9_b000_0000_0000 ∷
    0x3fe9_8000_0000_0000 ∷ 0x3fe9_6000_0000_0000 ∷ 0x3fe9_3000_0000_0000 ∷ 0x3fe9_1000_0000_0000 ∷
    0x3fe8_e000_0000_0000 ∷ 0x3fe8_c000_0000_0000 ∷ 0x3fe8_a000_0000_0000 ∷ 0x3fe8_7000_0000_0000 ∷
    0x3fe8_5000_0000_0000 ∷ 0x3fe8_3000_0000_0000 ∷ 0x3fe8_0000_0000_0000 ∷ 0x3fe7_e000_0000_0000 ∷
    0x3fe7_c000_0000_0000 ∷ 0x3fe7_a000_0000_0000 ∷ 0x3fe7_8000_0000_0000 ∷ 0x3fe7_5000_0000_0000 ∷
    0x3fe7_3000_0000_0000 ∷ 0x3fe7_1000_0000_0000 ∷ 0x3fe6_f000_0000_0000 ∷ 0x3fe6_d000_0000_0000 ∷
    0x3fe6_b000_0000_0000 ∷ 0x3fe6_9000_0000_0000 ∷ 0x3fe6_7000_0000_0000 ∷ 0x3fe6_5000_0000_0000 ∷
    0x3fe6_3000_0000_0000 ∷ 0x3fe6_1000_0000_0000 ∷ 0x3fe5_f000_0000_0000 ∷ 0x3fe5_e000_0000_0000 ∷
    0x3fe5_c000_0000_0000 ∷ 0x3fe5_a000_0000_0000 ∷ 0x3fe5_8000_0000_0000 ∷ 0x3fe5_6000_0000_0000 ∷
    0x3fe5_4000_0000_0000 ∷ 0x3fe5_3000_0000_0000 ∷ 0x3fe5_1000_0000_0000 ∷ 0x3fe4_f000_0000_0000 ∷
    0x3fe4_e000_0000_0000 ∷ 0x3fe4_c000_0000_0000 ∷ 0x3fe4_a000_0000_0000 ∷ 0x3fe4_9000_0000_0000 ∷
    0x3fe4_7000_0000_0000 ∷ 0x3fe4_5000_0000_0000 ∷ 0x3fe4_4000_0000_0000 ∷ 0x3fe4_2000_0000_0000 ∷
    0x3fe4_0000_0000_0000 ∷ 0x3fe3_f000_0000_0000 ∷ 0x3fe3_d000_0000_0000 ∷ 0x3fe3_c000_0000_0000 ∷
    0x3fe3_a000_0000_0000 ∷ 0x3fe3_9000_0000_0000 ∷ 0x3fe3_7000_0000_0000 ∷ 0x3fe3_6000_0000_0000 ∷
    0x3fe3_4000_0000_0000 ∷ 0x3fe3_3000_0000_0000 ∷ 0x3fe3_2000_0000_0000 ∷ 0x3fe3_0000_0000_0000 ∷
    0x3fe2_f000_0000_0000 ∷ 0x3fe2_d000_0000_0000 ∷ 0x3fe2_c000_0000_0000 ∷ 0x3fe2_b000_0000_0000 ∷
    0x3fe2_9000_0000_0000 ∷ 0x3fe2_8000_0000_0000 ∷ 0x3fe2_7000_0000_0000 ∷ 0x3fe2_5000_0000_0000 ∷
    0x3fe2_4000_0000_0000 ∷ 0x3fe2_3000_0000_0000 ∷ 0x3fe2_1000_0000_0000 ∷ 0x3fe2_0000_0000_0000 ∷
    0x3fe1_f000_0000_0000 ∷ 0x3fe1_e000_0000_0000 ∷ 0x3fe1_c000_0000_0000 ∷ 0x3fe1_b000_0000_0000 ∷
    0x3fe1_a000_0000_0000 ∷ 0x3fe1_9000_0000_0000 ∷ 0x3fe1_7000_0000_0000 ∷ 0x3fe1_6000_0000_0000 ∷
    0x3fe1_5000_0000_0000 ∷ 0x3fe1_4000_0000_0000 ∷ 0x3fe1_3000_0000_0000 ∷ 0x3fe1_2000_0000_0000 ∷
    0x3fe1_0000_0000_0000 ∷ 0x3fe0_f000_0000_0000 ∷ 0x3fe0_e000_0000_0000 ∷ 0x3fe0_d000_0000_0000 ∷
    0x3fe0_c000_0000_0000 ∷ 0x3fe0_b000_0000_0000 ∷ 0x3fe0_a000_0000_0000 ∷ 0x3fe0_9000_0000_0000 ∷
    0x3fe0_8000_0000_0000 ∷ 0x3fe0_7000_0000_0000 ∷ 0x3fe0_6000_0000_0000 ∷ 0x3fe0_5000_0000_0000 ∷
    0x3fe0_4000_0000_0000 ∷ 0x3fe0_3000_0000_0000 ∷ 0x3fe0_2000_0000_0000 ∷ 0x3fe0_1000_0000_0000 ∷ []

-- what an inverse has beyond its head
abbrev pub inverse_tails : List ℕ
inverse_tails =
    0x3eef_f726_fa1a_0000 ∷ 0x3f21_cc26_1ea7_4000 ∷ 0x3f38_8584_0cc9_7000 ∷ 0x3f47_d8f3_bab7_3400 ∷
    0xbf48_dff1_bbb0_6400 ∷ 0xbf27_f873_44e5_5000 ∷ 0x3f40_6a8a_7432_6c00 ∷ 0xbf45_b9f3_d599_2c00 ∷
    0x3f2e_0096_09a5_6000 ∷ 0xbf47_f86a_2111_a000 ∷ 0x3f37_905b_e488_1800 ∷ 0xbf3a_9cc8_2519_9000 ∷
    0x3f4c_b2a9_7b7a_7400 ∷ 0x3f33_71f3_5966_6800 ∷ 0xbf29_25d5_886f_e000 ∷ 0xbf43_664b_23de_4c00 ∷
    0xbf4d_ad0a_8a9f_f000 ∷ 0x3f4a_d4ce_ee7e_3000 ∷ 0x3f46_0fbb_b39c_fc00 ∷ 0x3f43_f5d7_6e5b_0400 ∷
    0x3f44_7832_1928_a000 ∷ 0x3f47_8b17_bcf8_b000 ∷ 0x3f4d_219f_2622_2c00 ∷ 0xbf4a_d37b_8b3e_d800 ∷
    0xbf40_5de8_3442_0800 ∷ 0xbf1c_59d3_f84b_c000 ∷ 0x3f37_31fe_9ac5_3800 ∷ 0x3f4d_03bc_25ce_2c00 ∷
    0xbf3e_ab7a_a5a6_c800 ∷ 0x3f2a_0139_3f2d_1000 ∷ 0x3f4e_7c93_6cf0_6c00 ∷ 0xbf2d_afa3_84e7_0000 ∷
    0x3f44_bbca_5f38_bc00 ∷ 0xbf3a_288a_dda4_5800 ∷ 0x3f43_1a77_9d20_e000 ∷ 0xbf35_8684_c568_d000 ∷
    0x3f49_4a3b_ff5e_7400 ∷ 0xbef8_b019_ffc2_0000 ∷ 0xbf48_fc95_04f3_c800 ∷ 0x3f40_9ea8_8c5f_ec00 ∷
    0xbf1f_ea69_8cbf_0000 ∷ 0xbf46_d85e_6b06_ac00 ∷ 0x3f48_0657_d009_8000 ∷ 0x3f31_2b1f_0519_4800 ∷
    0xbf24_c882_34a5_3000 ∷ 0xbf41_5661_a368_f800 ∷ 0xbf4b_e037_a3e6_a400 ∷ 0x3f4b_2b6f_584c_3000 ∷
    0x3f43_c30f_837a_7c00 ∷ 0x3f3b_c351_6748_f800 ∷ 0x3f33_0047_d5ad_0000 ∷ 0x3f2a_61f1_38c7_d000 ∷
    0x3f24_90bc_5b4d_1000 ∷ 0x3f24_7332_f0cb_a000 ∷ 0x3f29_f182_2422_3000 ∷ 0x3f32_7ccd_28f6_c800 ∷
    0x3f3a_b554_7926_2000 ∷ 0x3f42_cdae_7770_5000 ∷ 0x3f49_914b_1971_3000 ∷ 0xbf4e_6129_bb4e_c400 ∷
    0xbf45_0cd2_91bc_8800 ∷ 0xbf34_f069_372c_4000 ∷ 0x3f05_8491_95a1_c000 ∷ 0x3f3c_be77_3b5e_9800 ∷
    0x3f4c_978a_9dfe_4c00 ∷ 0xbf44_02f7_e6e9_f400 ∷ 0xbf1b_a489_a844_2000 ∷ 0x3f3c_7a39_a6f6_b800 ∷
    0xbf4e_f0c0_875f_0000 ∷ 0xbf36_09fc_3ae1_c000 ∷ 0x3f33_fe1f_012c_5000 ∷ 0xbf4f_eb6c_adef_3000 ∷
    0xbf31_8f27_3697_a800 ∷ 0x3f3e_ce99_c8c2_a000 ∷ 0xbf47_62ed_2dee_9800 ∷ 0x3f16_a822_bf1f_6000 ∷
    0x3f4e_0b68_fbd2_c400 ∷ 0xbf27_0a2a_8017_1000 ∷ 0x3f47_6680_2d33_a400 ∷ 0xbf34_f9ff_79f6_a800 ∷
    0x3f44_90ad_d76a_e000 ∷ 0xbf36_e993_017f_f000 ∷ 0x3f45_6f16_11e8_7000 ∷ 0xbf31_8db2_9648_f000 ∷
    0x3f49_e661_3751_0000 ∷ 0xbf14_6620_069b_8000 ∷ 0xbf4e_2229_7bca_dc00 ∷ 0x3f2c_8373_e399_0000 ∷
    0xbf42_c511_a81e_fc00 ∷ 0x3f44_2808_66a7_4400 ∷ 0xbf20_6574_802d_6000 ∷ 0xbf4b_8e17_cf91_5400 ∷
    0x3f3b_9300_a5a9_8000 ∷ 0xbf30_2d45_42f0_5800 ∷ 0xbf4d_3193_8b11_0400 ∷ 0x3f3c_ec1c_7fad_e800 ∷
    0xbf24_8553_6f7c_5000 ∷ 0xbf47_fb51_5afd_2800 ∷ 0x3f45_e65b_3104_c800 ∷ 0x3f22_01dd_2fc9_b000 ∷
    0xbf38_5db5_95bf_a800 ∷ 0xbf4c_2ab5_c26a_5c00 ∷ 0x3f44_8c45_5df9_f000 ∷ 0x3f27_c74c_b26e_9000 ∷
    0xbf2f_ef3d_3e54_a000 ∷ 0xbf45_3e11_263d_0c00 ∷ 0x3f4e_2897_bef2_d800 ∷ 0x3f42_34d5_30c7_6800 ∷
    0x3f2b_9902_75fd_d000 ∷ 0xbf1e_2b79_a5b6_8000 ∷ 0xbf3b_a46f_7831_3000 ∷ 0xbf47_3f5c_4d2b_3c00 ∷
    0x3f4f_ef6a_10d2_bc00 ∷ 0x3f47_b83d_39ae_cc00 ∷ 0x3f40_1974_aa7f_3800 ∷ 0x3f32_2319_6529_0800 ∷
    0x3f14_ef9c_5303_4000 ∷ 0xbf1a_0f87_3925_e000 ∷ 0xbf31_233a_ff66_3800 ∷ 0xbf3a_a285_68c1_0800 ∷
    0xbf41_8342_c75c_1400 ∷ 0xbf45_29cf_29c3_9c00 ∷ 0xbf48_4568_4c1b_5000 ∷ 0xbf4a_d8c8_bb4d_c000 ∷
    0xbf4c_e4e4_3d49_5c00 ∷ 0xbf4e_6bb2_1b35_5c00 ∷ 0xbf4f_6f60_5632_e000 ∷ 0xbf4f_efe7_ad39_ac00 ∷ []

-- how far the middle of each part, divided by c, lies above 1
abbrev pub offsets : List ℕ
offsets =
    0x3e67_1e21_141a_0000 ∷ 0x3e68_a910_335c_0000 ∷ 0x3e3f_a109_5f30_0000 ∷ 0xbe4d_9b2d_c994_0000 ∷
    0x3e57_625b_343e_0000 ∷ 0xbe30_1c6d_9538_0000 ∷ 0xbe39_07ce_0908_0000 ∷ 0x3e53_7071_6d36_0000 ∷
    0xbe65_fffb_6a4a_0000 ∷ 0x3e52_ff3d_0890_0000 ∷ 0xbe69_9237_17c1_0000 ∷ 0xbe6b_c40d_db7e_0000 ∷
    0x3e4c_0889_6954_0000 ∷ 0xbe70_7fc2_bcb0_8000 ∷ 0x3e5c_28e3_6e74_0000 ∷ 0x3e64_70b2_7233_0000 ∷
    0xbe66_399f_a37c_0000 ∷ 0xbe48_c6e6_8f70_0000 ∷ 0x3e0d_492a_c6c0_0000 ∷ 0x3e62_d00a_b867_0000 ∷
    0xbe71_bc19_fbcc_0000 ∷ 0xbe71_68c9_314e_0000 ∷ 0x3e71_03fa_c5b7_8000 ∷ 0xbe63_ce73_d86a_0000 ∷
    0x3e4e_59bd_5478_0000 ∷ 0x3e31_b34f_4a30_0000 ∷ 0xbe64_f5e5_fe6d_0000 ∷ 0xbe6d_9b84_a223_0000 ∷
    0x3e55_c2dd_c55e_0000 ∷ 0xbe4f_a3d0_e354_0000 ∷ 0x3e60_a379_6d6f_0000 ∷ 0x3e71_19eb_2138_0000 ∷
    0xbe70_e7d3_3b88_8000 ∷ 0xbe72_735a_65b0_8000 ∷ 0x3e73_3b4f_578c_0000 ∷ 0x3e72_c67d_71e5_0000 ∷
    0x3e69_c6cc_18c5_0000 ∷ 0x3e74_4e62_502a_0000 ∷ 0xbe71_baee_2365_0000 ∷ 0xbe68_5c13_9e8b_0000 ∷
    0xbe6c_a792_3b78_0000 ∷ 0xbe70_a0f7_3ab8_8000 ∷ 0x3e6c_be07_29e0_0000 ∷ 0x3e68_d1fa_9bef_0000 ∷
    0xbe71_bbc7_94ed_8000 ∷ 0xbe46_587f_4828_0000 ∷ 0xbe75_7b4e_2db2_8000 ∷ 0x3e71_b542_0eba_0000 ∷
    0xbe2e_6ed0_6c10_0000 ∷ 0xbe43_0ee2_e80c_0000 ∷ 0xbe63_7a60_b7e0_0000 ∷ 0xbe54_d72b_f96a_0000 ∷
    0x3e29_9cbf_ab90_0000 ∷ 0xbe54_d891_e884_0000 ∷ 0xbe75_4b93_da0c_8000 ∷ 0x3e6d_43b7_3917_0000 ∷
    0xbe64_27ac_017c_0000 ∷ 0x3e43_d717_c3f0_0000 ∷ 0x3e76_4d82_3d5e_0000 ∷ 0xbe65_0858_1847_0000 ∷
    0x3e4d_e761_5bb8_0000 ∷ 0x3e34_3b51_7d40_0000 ∷ 0x3e69_32ae_c6eb_0000 ∷ 0x3e6e_8c3a_50ad_0000 ∷
    0xbe48_8864_8fb4_0000 ∷ 0xbe6f_3084_eaf7_0000 ∷ 0xbe50_52ca_f84a_0000 ∷ 0xbe75_1f1f_d2cf_8000 ∷
    0x3e6a_1c0b_ca40_0000 ∷ 0xbe76_82ed_a534_0000 ∷ 0x3e71_614d_1b81_0000 ∷ 0x3e41_9ce8_3430_0000 ∷
    0xbe73_c6c8_38e2_8000 ∷ 0xbe68_7d1e_b3c4_0000 ∷ 0x3e6f_b195_6262_0000 ∷ 0x3e75_3cf7_6b86_8000 ∷
    0x3e5d_5d29_dd92_0000 ∷ 0x3e75_6e22_d7ca_8000 ∷ 0x3e67_323b_13e5_0000 ∷ 0xbe74_526b_6da5_8000 ∷
    0xbe65_3506_ba48_0000 ∷ 0xbe52_e6dd_1974_0000 ∷ 0xbe64_2d23_2ff4_0000 ∷ 0xbe72_2165_2849_0000 ∷
    0xbe71_1365_50e0_0000 ∷ 0xbe79_5dac_157a_0000 ∷ 0x3e78_0f71_a1aa_8000 ∷ 0x3e65_01c2_e970_0000 ∷
    0x3e75_a454_72f8_8000 ∷ 0x3e29_19b8_e230_0000 ∷ 0x3e76_8109_9459_0000 ∷ 0xbe75_5a9e_46e1_8000 ∷
    0x3e4e_0eb0_7ec0_0000 ∷ 0x3e7a_9252_a17b_8000 ∷ 0x3e7a_50e8_6d81_8000 ∷ 0x3e51_70bc_2a06_0000 ∷
    0x3e71_454b_b7bd_8000 ∷ 0x3e5f_d65a_0144_0000 ∷ 0x3e73_ebb7_aebd_0000 ∷ 0x3e65_01fe_f77d_0000 ∷
    0x3e66_daf5_9ba3_0000 ∷ 0xbe72_7c72_965e_8000 ∷ 0x3e73_1d47_62a6_0000 ∷ 0x3e67_3b6b_5f67_0000 ∷
    0xbe68_e3e3_7b6a_0000 ∷ 0xbe5c_a460_ae72_0000 ∷ 0x3e67_8034_b96e_0000 ∷ 0xbe79_7868_23f5_0000 ∷
    0xbe72_539f_f055_8000 ∷ 0x3e75_5526_1982_0000 ∷ 0xbe76_3b2f_3a67_0000 ∷ 0x3e6c_92e7_06af_0000 ∷
    0x3e7a_c933_7e67_8000 ∷ 0x3e73_707a_995c_8000 ∷ 0x3e5d_0381_828c_0000 ∷ 0x3e68_a9ee_21c7_0000 ∷
    0xbe62_732b_7656_0000 ∷ 0x3e70_de95_916d_8000 ∷ 0xbe6b_13ba_fb3b_0000 ∷ 0xbe4f_fac6_9f3c_0000 ∷
    0x3e55_ad7b_1e96_0000 ∷ 0xbe6f_b39a_1245_0000 ∷ 0x3e55_7187_4638_0000 ∷ 0x3e3b_2ff4_7780_0000 ∷
    0x3e6e_70c6_9261_0000 ∷ 0x3e76_c883_aa59_8000 ∷ 0xbe6c_a2d8_c9d8_0000 ∷ 0x3e50_469c_f0d6_0000 ∷ []

-- ln c for each part, rounded, and from 1.375 on ln(c/2)
abbrev pub logarithms : List ℕ
logarithms =
    0x3f6f_eff3_8490_0000 ∷ 0x3f87_dc41_353d_0000 ∷ 0x3f93_cea3_c4c2_8000 ∷ 0x3f9b_9fc1_1489_0000 ∷
    0x3fa1_b0d8_ce11_0000 ∷ 0x3fa5_8a5b_d001_c000 ∷ 0x3fa9_5c83_40d8_8000 ∷ 0x3fad_276a_ef57_8000 ∷
    0x3fb0_7598_e598_c000 ∷ 0x3fb2_53f5_e30d_2000 ∷ 0x3fb4_2edd_8b38_0000 ∷ 0x3fb6_0659_8757_c000 ∷
    0x3fb7_da76_356a_0000 ∷ 0x3fb9_ab43_4e1c_6000 ∷ 0x3fbb_78c7_bb0d_6000 ∷ 0x3fbd_4313_32e7_2000 ∷
    0x3fbf_0a31_71de_6000 ∷ 0x3fc0_6715_2b91_4000 ∷ 0x3fc1_4785_8292_b000 ∷ 0x3fc2_266e_cdca_3000 ∷
    0x3fc3_03d7_a6c5_5000 ∷ 0x3fc3_dfc3_3c33_1000 ∷ 0x3fc4_ba36_6b7a_8000 ∷ 0x3fc5_9339_28d1_f000 ∷
    0x3fc6_6acd_2418_f000 ∷ 0x3fc7_40f8_ec66_9000 ∷ 0x3fc8_15c0_f51a_f000 ∷ 0x3fc8_e929_54f6_8000 ∷
    0x3fc9_bb36_02f8_4000 ∷ 0x3fca_8bed_1c2c_0000 ∷ 0x3fcb_5b51_5c01_d000 ∷ 0x3fcc_2967_ccbc_c000 ∷
    0x3fcc_f635_d548_6000 ∷ 0x3fcd_c1bd_3446_c000 ∷ 0x3fce_8c01_b8cf_e000 ∷ 0x3fcf_5509_c017_9000 ∷
    0x3fd0_0e6c_121f_b800 ∷ 0x3fd0_71b8_0e93_d000 ∷ 0x3fd0_d46b_9e86_7000 ∷ 0x3fd1_3687_334b_d000 ∷
    0x3fd1_980d_6723_4800 ∷ 0x3fd1_f8ff_e0cc_8000 ∷ 0x3fd2_595f_d763_6800 ∷ 0x3fd2_b930_0914_a800 ∷
    0x3fd3_1872_1043_6000 ∷ 0x3fd3_7726_6dec_1800 ∷ 0x3fd3_d54f_fbaf_3000 ∷ 0x3fd4_32ee_e32f_e000 ∷
    0xbfd7_cc7f_79e6_9000 ∷ 0xbfd7_6fee_c20d_0000 ∷ 0xbfd7_13e3_1351_e000 ∷ 0xbfd6_b85b_3828_7800 ∷
    0xbfd6_5d55_9080_7800 ∷ 0xbfd6_02d0_7618_0000 ∷ 0xbfd5_a8ca_8690_9000 ∷ 0xbfd5_4f43_5603_5000 ∷
    0xbfd4_f637_c36b_4000 ∷ 0xbfd4_9da7_fda8_5000 ∷ 0xbfd4_4592_3989_a800 ∷ 0xbfd3_edf4_39b0_b800 ∷
    0xbfd3_96ce_448f_7000 ∷ 0xbfd3_401e_17bd_a000 ∷ 0xbfd2_e9e2_ef46_8000 ∷ 0xbfd2_941b_3830_e000 ∷
    0xbfd2_3ec5_8cda_8800 ∷ 0xbfd1_e9e1_2927_9000 ∷ 0xbfd1_956d_2b48_f800 ∷ 0xbfd1_4167_9ab9_f800 ∷
    0xbfd0_edd0_94ef_9800 ∷ 0xbfd0_9aa5_18db_1000 ∷ 0xbfd0_47e6_5263_b800 ∷ 0xbfcf_eb22_4586_f000 ∷
    0xbfcf_474a_7517_b000 ∷ 0xbfce_a444_3d10_3000 ∷ 0xbfce_020d_44e9_b000 ∷ 0xbfcd_60a2_2977_f000 ∷
    0xbfcc_c001_0495_9000 ∷ 0xbfcc_2029_5689_1000 ∷ 0xbfcb_8117_8d81_1000 ∷ 0xbfca_e2c9_ccd3_d000 ∷
    0xbfca_4540_2e12_9000 ∷ 0xbfc9_a877_681d_f000 ∷ 0xbfc9_0c6d_6948_3000 ∷ 0xbfc8_7120_a645_c000 ∷
    0xbfc7_d68f_b414_3000 ∷ 0xbfc7_3cb8_3c62_7000 ∷ 0xbfc6_a39a_9b37_6000 ∷ 0xbfc6_0b31_54b7_a000 ∷
    0xbfc5_737d_7624_3000 ∷ 0xbfc4_dc7b_8fc2_3000 ∷ 0xbfc4_462c_51d2_0000 ∷ 0xbfc3_b08a_bc83_0000 ∷
    0xbfc3_1b99_6b49_0000 ∷ 0xbfc2_8754_90a4_4000 ∷ 0xbfc1_f3b9_f879_a000 ∷ 0xbfc1_60c8_252c_a000 ∷
    0xbfc0_ce7f_57f7_2000 ∷ 0xbfc0_3cdc_49fe_a000 ∷ 0xbfbf_57bd_bc4b_8000 ∷ 0xbfbe_3708_9640_4000 ∷
    0xbfbd_1798_3ef9_4000 ∷ 0xbfbb_f967_4ed8_a000 ∷ 0xbfba_dc79_202f_6000 ∷ 0xbfb9_c0c3_e728_8000 ∷
    0xbfb8_a646_b372_c000 ∷ 0xbfb7_8d01_b3ac_0000 ∷ 0xbfb6_74f1_4538_0000 ∷ 0xbfb5_5e0e_6d87_8000 ∷
    0xbfb4_485c_dea1_e000 ∷ 0xbfb3_33d9_4d6a_a000 ∷ 0xbfb2_2079_f8c5_6000 ∷ 0xbfb1_0e46_9862_2000 ∷
    0xbfaf_fa6c_6ad2_0000 ∷ 0xbfad_da8d_4a77_4000 ∷ 0xbfab_bcec_e485_0000 ∷ 0xbfa9_a189_4012_c000 ∷
    0xbfa7_8858_3302_c000 ∷ 0xbfa5_715e_67d6_8000 ∷ 0xbfa3_5c8a_4965_8000 ∷ 0xbfa1_49e3_6415_4000 ∷
    0xbf9e_72c0_82eb_8000 ∷ 0xbf9a_55f1_5252_8000 ∷ 0xbf96_3d62_cf81_8000 ∷ 0xbf92_28fb_8caa_0000 ∷
    0xbf8c_317b_20f9_0000 ∷ 0xbf84_1935_5daa_0000 ∷ 0xbf78_1203_c2ec_0000 ∷ 0xbf60_0409_7924_0000 ∷ []

-- 1/c in two parts, how far the part's middle over c lies above 1, and ln c or ln(c/2); from 127 on the last row
unfoldable pub ln_row_of : ℕ → LnRow
ln_row_of i =
    record {
      head = bits (get_or inverse_heads (min i 127) 0);
      tail = bits (get_or inverse_tails (min i 127) 0);
      offset = bits (get_or offsets (min i 127) 0);
      logarithm = bits (get_or logarithms (min i 127) 0);
    }
